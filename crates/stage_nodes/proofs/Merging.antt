-- A merger before and after one packet.
use Rattle.std.proofs.Common.{◌≡◌, ◌≢◌, ◌<◌, ◌≤◌, ◌-◌, ◌∙◌, ◌^◌, ℕ, zero, suc, List, [], ◌∷◌, length, map, get_or, refl, arith, ap, sym, subst, Bool, true, false, All, inl, inr}
use Rattle.std.specs.Prelude.{◌⊎◌, if◌then◌else◌, slice_index_or}
use Rattle.std.specs.List.{list_any}
use Rattle.std.proofs.lemmas.List.{length-map, get_or-map}
use Rattle.packet_version.specs.Splitting.{PlainApart}
use Rattle.packet_version.specs.Versions.{PlainVersion}
use Rattle.merge_ops.specs.Merging.{is_short as is_lost, decision_of}
use Rattle.merge_ops.specs.Taking.{arrival_at, merged}
use Rattle.merge_ops.specs.Behind.{AreArrivals, IsFrom, no_touch}
use Rattle.merge_ops.specs.declared.arrival.Arrival.{Arrival}
use Rattle.merge_ops.specs.declared.arrival.Arrival.TheVariants as came
use Rattle.merge_ops.specs.declared.merging.Merged.TheVariants as ends
use Rattle.packet_messages.specs.Messages.{PlainMessage, PlainMessage.Live, PlainMessage.Nil, PlainMessage.Short, Fits, Owing, first, is_short, rest}
use Rattle.stage_nodes.specs.Streams.{as_arrival, of_merged, joined, merged_rows}
use Rattle.stage_nodes.specs.Flows.{Belongs, AllBelong}
use Rattle.stage_nodes.specs.Dues.{MergerDue}
use Rattle.stage_nodes.specs.Gathering.{ArrivalFits, RowFits}
use Rattle.stage_nodes.specs.Turns.{BelongTo, joined_row, MergerAt}
use Rattle.stage_nodes.proofs.Ends.{some_more, none_more}

-- arrivals that fit what is due from the branches

row_length : (dues : List (PlainMessage PlainVersion)) (row : List Arrival) → RowFits dues row → length row ≡ length dues
unfolding RowFits
row_length [] [] fits = refl
row_length [] (a ∷ row) fits = absurd fits
row_length (due ∷ dues) [] fits = absurd fits
row_length (due ∷ dues) (a ∷ row) fits = ap suc (row_length dues row fits.1)

row_at : (dues : List (PlainMessage PlainVersion)) (row : List Arrival) (b : ℕ) → RowFits dues row → (arrival_at row b ≡ arrival_at (map as_arrival dues) b) ⊎ (arrival_at row b ≡ came.Short)
unfolding RowFits
row_at [] [] b fits = inl refl
row_at [] (a ∷ row) b fits = absurd fits
row_at (due ∷ dues) [] b fits = absurd fits
row_at (due ∷ dues) (a ∷ row) zero fits = fits.0
row_at (due ∷ dues) (a ∷ row) (suc b) fits = row_at dues row b fits.1

-- all are those that are due, or one is short
row_or_short : (dues : List (PlainMessage PlainVersion)) (row : List Arrival) → RowFits dues row → (row ≡ map as_arrival dues) ⊎ (list_any is_lost row ≡ true)
unfolding RowFits
row_or_short [] [] fits = inl refl
row_or_short [] (a ∷ row) fits = absurd fits
row_or_short (due ∷ dues) [] fits = absurd fits
row_or_short (due ∷ dues) (a ∷ row) fits = behind fits.0 (row_or_short dues row fits.1)
  where
    behind : ArrivalFits due a → (row ≡ map as_arrival dues) ⊎ (list_any is_lost row ≡ true) → (a ∷ row ≡ map as_arrival (due ∷ dues)) ⊎ (list_any is_lost (a ∷ row) ≡ true)
    behind (inl e) (inl same) = inl (λ i. e i ∷ same i)
    behind (inr e) h = inr (ap (λ y. list_any is_lost (y ∷ row)) e)
    behind (inl e) (inr lost) = inr (grind (arith, lost))

are_arrivals : (base : PlainApart) (dues : List (PlainMessage PlainVersion)) (row : List Arrival) → AreArrivals base (map as_arrival dues) → RowFits dues row → AreArrivals base row
are_arrivals base dues row are fits = record {
  whole = are.whole;
  touches = are.touches;
  from = record {
    fits = are.from.fits;
    behind = are.from.behind;
    count = row_length dues row fits ∙ sym (length-map dues as_arrival) ∙ are.from.count;
    each = λ b less. each b (are.from.each b less) (row_at dues row b fits);
  };
}
  where
    each : (b : ℕ) → IsFrom are.whole (slice_index_or are.touches b no_touch) (arrival_at (map as_arrival dues) b) → (arrival_at row b ≡ arrival_at (map as_arrival dues) b) ⊎ (arrival_at row b ≡ came.Short) → IsFrom are.whole (slice_index_or are.touches b no_touch) (arrival_at row b)
    each b is (inl e) = subst (IsFrom are.whole (slice_index_or are.touches b no_touch)) (sym e) is
    each b is (inr e) = subst (IsFrom are.whole (slice_index_or are.touches b no_touch)) (sym e) tt

merged_short : (base : PlainApart) (row : List Arrival) → list_any is_lost row ≡ true → merged base row ≡ ends.Short
unfolding decision_of
merged_short base row lost = rw lost refl

-- the packet that comes next

all_more : (b : PlainMessage PlainApart) (bases : List (PlainMessage PlainApart)) (columns : List (List (PlainMessage PlainVersion))) → AllBelong (b ∷ bases) columns → Belongs b (map first columns) × AllBelong bases (map rest columns)
unfolding AllBelong
all_more b bases columns all = all

rows_more : (b : PlainMessage PlainApart) (bases : List (PlainMessage PlainApart)) (columns : List (List (PlainMessage PlainVersion))) → merged_rows (b ∷ bases) columns ≡ joined b (map first columns) ∷ merged_rows bases (map rest columns)
unfolding merged_rows
rows_more b bases columns = refl

first_belongs : (n : ℕ) (bases : List (PlainMessage PlainApart)) (columns : List (List (PlainMessage PlainVersion))) → length bases ≡ suc n → AllBelong bases columns → Belongs (first bases) (map first columns)
first_belongs n [] columns many all = absurd (omega arith)
first_belongs n (b ∷ bases) columns many all = (all_more b bases columns all).0

pub few_came : (n : ℕ) (bases : List (PlainMessage PlainApart)) (columns : List (List (PlainMessage PlainVersion))) (outlet : List (PlainMessage PlainApart)) (row : List Arrival)
    → MergerDue n bases columns outlet → RowFits (map first columns) row → length row < 2 ^ 32
few_came n bases columns outlet row d fits = let l = row_length (map first columns) row fits in let m = length-map columns first in let f = d.few in omega arith

pub belong_to : (n : ℕ) (bases : List (PlainMessage PlainApart)) (columns : List (List (PlainMessage PlainVersion))) (outlet : List (PlainMessage PlainApart)) (base : PlainMessage PlainApart) (row : List Arrival)
    → MergerDue (suc n) bases columns outlet → Fits (first bases) base → RowFits (map first columns) row → BelongTo base row
belong_to n bases columns outlet Short row d fit fits = tt
belong_to n bases columns outlet (Nil p) row d fit fits = tt
belong_to n bases columns outlet (Live base) row d (inr e) fits = absurd (cc)
belong_to n bases columns outlet (Live base) row d (inl e) fits =
    are_arrivals base (map first columns) row (subst (λ y. Belongs y (map first columns)) (sym e) (first_belongs n bases columns d.many d.belong)) fits

-- a packet that was dropped before, and a branch that ran out of memory
gone_or_short : (p : ℕ) (lost : Bool) → Fits {P = PlainApart} (Nil p) (if lost then Short else Nil p)
gone_or_short p true = inr refl
gone_or_short p false = inl refl

joined_fits : (due base : PlainMessage PlainApart) (dues : List (PlainMessage PlainVersion)) (row : List Arrival) → Fits due base → RowFits dues row → Fits (joined due dues) (joined_row base row)
joined_fits due Short dues row fit fits = inr refl
joined_fits due (Nil p) dues row (inl e) fits = subst (λ y. Fits (joined y dues) (joined_row (Nil p) row)) e (gone_or_short p (list_any is_lost row))
joined_fits due (Nil p) dues row (inr e) fits = absurd cc
joined_fits due (Live base) dues row (inr e) fits = absurd cc
joined_fits due (Live base) dues row (inl e) fits = subst (λ y. Fits (joined y dues) (of_merged (merged base row))) e (by_row (row_or_short dues row fits))
  where
    by_row : (row ≡ map as_arrival dues) ⊎ (list_any is_lost row ≡ true) → Fits (of_merged (merged base (map as_arrival dues))) (of_merged (merged base row))
    by_row (inl same) = inl (ap (λ r. of_merged (merged base r)) same)
    by_row (inr lost) = inr (ap of_merged (merged_short base row lost))

through : {P : Type 0} (due message reply : PlainMessage P) → Fits due message → Fits message reply → Fits due reply
through due message reply fit (inr e) = inr e
through due message reply (inl d) (inl e) = inl (e ∙ d)
through due message reply (inr d) (inl e) = inr (e ∙ d)

merger_first : (n : ℕ) (bases : List (PlainMessage PlainApart)) (columns : List (List (PlainMessage PlainVersion))) (outlet : List (PlainMessage PlainApart)) → MergerDue (suc n) bases columns outlet → first outlet ≡ joined (first bases) (map first columns)
merger_first n [] columns outlet d = absurd (let m = d.many in omega arith)
merger_first n (b ∷ bases) columns outlet d = ap first (d.gives ∙ rows_more b bases columns)

-- what becomes of it fits
pub reply_fits : (n : ℕ) (bases : List (PlainMessage PlainApart)) (columns : List (List (PlainMessage PlainVersion))) (outlet : List (PlainMessage PlainApart)) (base : PlainMessage PlainApart) (row : List Arrival) (reply : PlainMessage PlainApart)
    → MergerDue (suc n) bases columns outlet → Fits (first bases) base → RowFits (map first columns) row → Fits (joined_row base row) reply → Fits (first outlet) reply
reply_fits n bases columns outlet base row reply d fit fits is =
    subst (λ y. Fits y reply) (sym (merger_first n bases columns outlet d)) (through (joined (first bases) (map first columns)) (joined_row base row) reply (joined_fits (first bases) base (map first columns) row fit fits) is)

-- a base is due
pub base_due : (n : ℕ) (bases : List (PlainMessage PlainApart)) (columns : List (List (PlainMessage PlainVersion))) (outlet : List (PlainMessage PlainApart)) → MergerDue (suc n) bases columns outlet → Owing bases
base_due n bases columns outlet d = let m = d.many in omega arith

-- something is due from each branch
pub all_owe : (n : ℕ) (bases : List (PlainMessage PlainApart)) (columns : List (List (PlainMessage PlainVersion))) (outlet : List (PlainMessage PlainApart)) → MergerDue (suc n) bases columns outlet → All Owing columns
all_owe n bases columns outlet d = λ k c less. let long = d.even k c less in omega arith

even_rest : (n : ℕ) (columns : List (List (PlainMessage PlainVersion))) → All (λ c. length c ≡ suc n) columns → All (λ c. length c ≡ n) (map rest columns)
even_rest n columns even = λ k d less.
    let inside : k < length columns = let m = length-map columns rest in omega arith in
    ap length (get_or-map rest columns k [] d inside) ∙ one_less (get_or columns k []) (even k [] inside)
  where
    one_less : (c : List (PlainMessage PlainVersion)) → length c ≡ suc n → length (rest c) ≡ n
    one_less [] e = absurd (omega arith)
    one_less (x ∷ c) e = omega arith

due_goes_on : (n : ℕ) (bases bases' : List (PlainMessage PlainApart)) (columns columns' : List (List (PlainMessage PlainVersion))) (outlet outlet' : List (PlainMessage PlainApart))
    → MergerDue (suc n) bases columns outlet → bases' ≡ rest bases → columns' ≡ map rest columns → outlet' ≡ rest outlet → MergerDue n bases' columns' outlet'
due_goes_on n [] bases' columns columns' outlet outlet' d b i o = absurd (let m = d.many in omega arith)
due_goes_on n (x ∷ bases) bases' columns columns' outlet outlet' d b i o = record {
  many = ap length b ∙ (let m = d.many in omega arith);
  some = let l = ap length i in let m = length-map columns rest in let s = d.some in omega arith;
  few = let l = ap length i in let m = length-map columns rest in let f = d.few in omega arith;
  even = subst (All (λ c. length c ≡ n)) (sym i) (even_rest n columns d.even);
  belong = subst (λ y. AllBelong y columns') (sym b) (subst (AllBelong bases) (sym i) (all_more x bases columns d.belong).1);
  gives = o ∙ ap rest (d.gives ∙ rows_more x bases columns) ∙ (λ j. merged_rows (sym b j) (sym i j));
}

rest_length : (n : ℕ) (outlet outlet' : List (PlainMessage PlainApart)) → length outlet ≡ suc n → outlet' ≡ rest outlet → length outlet' ≡ n
rest_length n [] outlet' many o = absurd (omega arith)
rest_length n (m ∷ outlet) outlet' many o = ap length o ∙ (omega arith)

-- over a count of packets

-- at least one packet is to come
pub merger_some : (count : ℕ) (short : Bool) (bases : List (PlainMessage PlainApart)) (columns : List (List (PlainMessage PlainVersion))) (outlet : List (PlainMessage PlainApart)) → count ≢ 0
    → MergerAt count short bases columns outlet → MergerAt (suc (count - 1)) short bases columns outlet
merger_some count short bases columns outlet ne a = subst (λ n. MergerAt n short bases columns outlet) (some_more count ne) a

pub merger_same : (count count' : ℕ) (short : Bool) (bases : List (PlainMessage PlainApart)) (columns : List (List (PlainMessage PlainVersion))) (outlet : List (PlainMessage PlainApart)) → count' ≡ count
    → MergerAt (count - 1) short bases columns outlet → MergerAt (count' - 1) short bases columns outlet
merger_same count count' short bases columns outlet e a = subst (λ n. MergerAt (n - 1) short bases columns outlet) (sym e) a

none_left : {A : Type 0} (xs : List A) → length xs ≡ 0 → xs ≡ []
none_left [] none = refl
none_left (x ∷ xs) none = absurd (omega arith)

-- nothing more is due to the next dealer
pub merger_gave : (count i n : ℕ) (short : Bool) (bases : List (PlainMessage PlainApart)) (columns : List (List (PlainMessage PlainVersion))) (outlet : List (PlainMessage PlainApart)) → count ≤ i → n ≡ count - i
    → MergerAt n short bases columns outlet → outlet ≡ []
merger_gave count i n short bases columns outlet le e a = none_left outlet (a.many ∙ e ∙ none_more count i le)

-- a message is due to the next dealer, and what becomes of the packet fits it
pub merger_owes : (n : ℕ) (short : Bool) (bases : List (PlainMessage PlainApart)) (columns : List (List (PlainMessage PlainVersion))) (outlet now : List (PlainMessage PlainApart)) → now ≡ outlet → MergerAt (suc n) short bases columns outlet → Owing now
merger_owes n short bases columns outlet now e a = let l = ap length e in let m = a.many in omega arith

pub merger_fits : (outlet now : List (PlainMessage PlainApart)) (reply : PlainMessage PlainApart) → now ≡ outlet → Fits (first outlet) reply → Fits (first now) reply
merger_fits outlet now reply e fits = subst (λ y. Fits (first y) reply) (sym e) fits

pub merger_goes_on : (n : ℕ) (short after : Bool) (reply : PlainMessage PlainApart) (bases bases' : List (PlainMessage PlainApart)) (columns columns' : List (List (PlainMessage PlainVersion))) (outlet now outlet' : List (PlainMessage PlainApart))
    → MergerAt (suc n) short bases columns outlet → after ≡ is_short reply → (is_short reply ≡ false → short ≡ false) → (is_short reply ≡ false → (bases' ≡ rest bases) × (columns' ≡ map rest columns)) → now ≡ outlet → outlet' ≡ rest now → MergerAt n after bases' columns' outlet'
merger_goes_on n short after reply bases bases' columns columns' outlet now outlet' a is ample taken stays o =
    let left : outlet' ≡ rest outlet = o ∙ ap rest stays in record {
      many = rest_length n outlet outlet' a.many left;
      due = λ v.
          let w : is_short reply ≡ false = sym is ∙ v in
          due_goes_on n bases bases' columns columns' outlet outlet' (a.due (ample w)) (taken w).0 (taken w).1 left;
    }
