-- Lists of packets that are cut into bursts.
use Rattle.std.proofs.Common.{◌≡◌, ℕ, ◌+◌, ◌<◌, zero, suc, inl, inr, Bool, true, false, cond, List, [], ◌∷◌, ◌++◌, All, Option, length, map, get_or, refl, sym, ap, ◌∙◌, arith, append_assoc, append-nil, leb, length-append}
use Rattle.std.proofs.lemmas.Bool.{cases_Bool, leb-false, lt-leb, or_from, or_parts}
use Rattle.std.proofs.lemmas.List.Sums.{sum_by-append}
use Rattle.std.proofs.lemmas.List.Elements.{All-cons, All-head, All-nil, All-same, All-tail}
use Rattle.capture_bytes.specs.declared.packet.PcapRecord.{PcapRecord}
use Rattle.classifier.specs.declared.burst.Item.{Item}
use Rattle.classifier.specs.Cutting.{IsClosedByLast, IsCut, bursts_from, captured, in_a_row, is_full, numbered, rest_from, unnumbered}

-- no burst is full without a packet
pub nothing_is_full : (limit : ℕ) → 0 < limit → is_full limit [] ≡ false
nothing_is_full limit lt = or_from _ _ (lt-leb limit 0 lt) refl

either : (b : Bool) (xs ys : List (List Item)) (rs qs all : List Item) → in_a_row xs ++ rs ≡ all → in_a_row ys ++ qs ≡ all → in_a_row (cond b xs ys) ++ cond b rs qs ≡ all
either true xs ys rs qs all p q = p
either false xs ys rs qs all p q = q

one_more : (held items : List Item) (i : Item) → (held ++ i ∷ []) ++ items ≡ held ++ i ∷ items
one_more held items i = append_assoc held (i ∷ []) items

-- the bursts joined, and the open one after them, are what was held and the packets
pub bursts_in_a_row : (limit : ℕ) (held items : List Item) → in_a_row (bursts_from limit held items) ++ rest_from limit held items ≡ held ++ items
unfolding bursts_from rest_from
bursts_in_a_row limit held [] = sym (append-nil held)
bursts_in_a_row limit held (i ∷ items) =
    either (is_full limit (held ++ i ∷ [])) _ _ _ _ (held ++ i ∷ items)
    (append_assoc (held ++ i ∷ []) (in_a_row (bursts_from limit [] items)) (rest_from limit [] items)
    ∙ (ap (λ l. (held ++ i ∷ []) ++ l) (bursts_in_a_row limit [] items) ∙ one_more held items i))
    (bursts_in_a_row limit (held ++ i ∷ []) items ∙ one_more held items i)

-- each burst was closed by its last packet
pub bursts_closed : (limit : ℕ) (held items : List Item) → is_full limit [] ≡ false → is_full limit held ≡ false → All (IsClosedByLast limit) (bursts_from limit held items)
unfolding bursts_from
bursts_closed limit held [] none e = All-nil (IsClosedByLast limit)
bursts_closed limit held (i ∷ items) none e =
    let closed = (held ++ i ∷ []) ∷ bursts_from limit [] items in
    let open_still = bursts_from limit (held ++ i ∷ []) items in
    elim (cases_Bool (is_full limit (held ++ i ∷ []))) [
      | inl t ↦ All-same (IsClosedByLast limit) (cond (is_full limit (held ++ i ∷ [])) closed open_still) closed (ap (λ b. cond b closed open_still) t)
          (All-cons (IsClosedByLast limit) (held ++ i ∷ []) (bursts_from limit [] items) (held, i, refl, e, t) (bursts_closed limit [] items none none))
      | inr f ↦ All-same (IsClosedByLast limit) (cond (is_full limit (held ++ i ∷ [])) closed open_still) open_still (ap (λ b. cond b closed open_still) f)
          (bursts_closed limit (held ++ i ∷ []) items none f)
    ]

-- the open burst isn't full
pub rest_open : (limit : ℕ) (held items : List Item) → is_full limit [] ≡ false → is_full limit held ≡ false → is_full limit (rest_from limit held items) ≡ false
unfolding rest_from
rest_open limit held [] none e = e
rest_open limit held (i ∷ items) none e =
    let closed = rest_from limit [] items in
    let open_still = rest_from limit (held ++ i ∷ []) items in
    elim (cases_Bool (is_full limit (held ++ i ∷ []))) [
      | inl t ↦ ap (λ b. is_full limit (cond b closed open_still)) t ∙ rest_open limit [] items none none
      | inr f ↦ ap (λ b. is_full limit (cond b closed open_still)) f ∙ rest_open limit (held ++ i ∷ []) items none f
    ]

pub packets_numbered : (first : ℕ) (packets : List (PcapRecord × Option ℕ)) → map unnumbered (numbered first packets) ≡ packets
packets_numbered first [] = refl
packets_numbered first (p ∷ ps) = ap (λ l. p ∷ l) (packets_numbered (first + 1) ps)

pub numbers_numbered : (first : ℕ) (packets : List (PcapRecord × Option ℕ)) (k : ℕ) (d : Item) → k < length packets → (get_or (numbered first packets) k d).number ≡ first + k
numbers_numbered first [] k d lt = absurd (omega (arith, lt))
numbers_numbered first (p ∷ ps) zero d lt = omega arith
numbers_numbered first (p ∷ ps) (suc k) d lt = omega (arith, numbers_numbered (first + 1) ps k d (omega (arith, lt)))

pub numbered_more : (first : ℕ) (packets more : List (PcapRecord × Option ℕ)) → numbered first (packets ++ more) ≡ numbered first packets ++ numbered (first + length packets) more
numbered_more first [] more = ap (λ n. numbered n more) (omega arith)
numbered_more first (p ∷ ps) more =
    ap (λ l. record { number = first; class = p.1; packet = p.0 } ∷ l)
    (numbered_more (first + 1) ps more ∙ ap (λ n. numbered (first + 1) ps ++ numbered n more) (omega arith))

split : (b : Bool) (xs ys zs us vs ws : List (List Item)) → xs ≡ us ++ vs → ys ≡ zs ++ ws → cond b xs ys ≡ cond b us zs ++ cond b vs ws
split true xs ys zs us vs ws p q = p
split false xs ys zs us vs ws p q = q

same_case : (b : Bool) (limit : ℕ) (more rs qs : List Item) → cond b (bursts_from limit rs more) (bursts_from limit qs more) ≡ bursts_from limit (cond b rs qs) more
same_case true limit more rs qs = refl
same_case false limit more rs qs = refl

-- more packets are cut from where the open burst ended
pub bursts_more : (limit : ℕ) (held items more : List Item) → bursts_from limit held (items ++ more) ≡ bursts_from limit held items ++ bursts_from limit (rest_from limit held items) more
unfolding bursts_from rest_from
bursts_more limit held [] more = refl
bursts_more limit held (i ∷ items) more =
    let b = is_full limit (held ++ i ∷ []) in
    split b _ _ (bursts_from limit (held ++ i ∷ []) items) ((held ++ i ∷ []) ∷ bursts_from limit [] items) (bursts_from limit (rest_from limit [] items) more) (bursts_from limit (rest_from limit (held ++ i ∷ []) items) more)
    (ap (λ l. (held ++ i ∷ []) ∷ l) (bursts_more limit [] items more))
    (bursts_more limit (held ++ i ∷ []) items more)
    ∙ ap (λ l. cond b ((held ++ i ∷ []) ∷ bursts_from limit [] items) (bursts_from limit (held ++ i ∷ []) items) ++ l) (same_case b limit more (rest_from limit [] items) (rest_from limit (held ++ i ∷ []) items))

both : (b : Bool) (limit : ℕ) (more xs ys rs qs : List Item) → xs ≡ rest_from limit rs more → ys ≡ rest_from limit qs more → cond b xs ys ≡ rest_from limit (cond b rs qs) more
both true limit more xs ys rs qs p q = p
both false limit more xs ys rs qs p q = q

pub rest_more : (limit : ℕ) (held items more : List Item) → rest_from limit held (items ++ more) ≡ rest_from limit (rest_from limit held items) more
unfolding rest_from
rest_more limit held [] more = refl
rest_more limit held (i ∷ items) more =
    both (is_full limit (held ++ i ∷ [])) limit more _ _ (rest_from limit [] items) (rest_from limit (held ++ i ∷ []) items) (rest_more limit [] items more) (rest_more limit (held ++ i ∷ []) items more)

pub one_burst : (limit : ℕ) (held : List Item) (i : Item) → bursts_from limit held (i ∷ []) ≡ cond (is_full limit (held ++ i ∷ [])) ((held ++ i ∷ []) ∷ []) []
unfolding bursts_from
one_burst limit held i = refl

pub one_rest : (limit : ℕ) (held : List Item) (i : Item) → rest_from limit held (i ∷ []) ≡ cond (is_full limit (held ++ i ∷ [])) [] (held ++ i ∷ [])
unfolding rest_from
one_rest limit held i = refl

-- what isn't full with more packets isn't full without them
not_full_before : (limit : ℕ) (xs ys : List Item) → is_full limit (xs ++ ys) ≡ false → is_full limit xs ≡ false
not_full_before limit xs ys e =
    let parts = or_parts (leb limit (length (xs ++ ys))) (leb 67108864 (captured (xs ++ ys))) e in
    or_from (leb limit (length xs)) (leb 67108864 (captured xs))
    (lt-leb limit (length xs) (omega (arith, leb-false limit (length (xs ++ ys)) parts.0, length-append xs ys)))
    (lt-leb 67108864 (captured xs) (omega (arith, leb-false 67108864 (captured (xs ++ ys)) parts.1, sum_by-append (λ (i : Item). length i.packet.frame) xs ys)))

-- packets that don't close the open burst only join it
joined_bursts : (limit : ℕ) (held xs more : List Item) → is_full limit (held ++ xs) ≡ false → bursts_from limit held (xs ++ more) ≡ bursts_from limit (held ++ xs) more
unfolding bursts_from
joined_bursts limit held [] more e = ap (λ l. bursts_from limit l more) (sym (append-nil held))
joined_bursts limit held (x ∷ xs) more e =
    let f : is_full limit (held ++ x ∷ []) ≡ false = not_full_before limit (held ++ x ∷ []) xs (ap (is_full limit) (one_more held xs x) ∙ e) in
    ap (λ b. cond b ((held ++ x ∷ []) ∷ bursts_from limit [] (xs ++ more)) (bursts_from limit (held ++ x ∷ []) (xs ++ more))) f
    ∙ (joined_bursts limit (held ++ x ∷ []) xs more (ap (is_full limit) (one_more held xs x) ∙ e)
    ∙ ap (λ l. bursts_from limit l more) (one_more held xs x))

joined_rest : (limit : ℕ) (held xs more : List Item) → is_full limit (held ++ xs) ≡ false → rest_from limit held (xs ++ more) ≡ rest_from limit (held ++ xs) more
unfolding rest_from
joined_rest limit held [] more e = ap (λ l. rest_from limit l more) (sym (append-nil held))
joined_rest limit held (x ∷ xs) more e =
    let f : is_full limit (held ++ x ∷ []) ≡ false = not_full_before limit (held ++ x ∷ []) xs (ap (is_full limit) (one_more held xs x) ∙ e) in
    ap (λ b. cond b (rest_from limit [] (xs ++ more)) (rest_from limit (held ++ x ∷ []) (xs ++ more))) f
    ∙ (joined_rest limit (held ++ x ∷ []) xs more (ap (is_full limit) (one_more held xs x) ∙ e)
    ∙ ap (λ l. rest_from limit l more) (one_more held xs x))

spelled : (limit : ℕ) (burst more : List Item) → (c : IsClosedByLast limit burst) → burst ++ more ≡ c.0 ++ c.1 ∷ more
spelled limit burst more c = ap (λ l. l ++ more) c.2 ∙ one_more c.0 more c.1

-- a burst that its last packet closed comes first
first_burst : (limit : ℕ) (burst more : List Item) → IsClosedByLast limit burst → bursts_from limit [] (burst ++ more) ≡ burst ∷ bursts_from limit [] more
unfolding bursts_from
first_burst limit burst more c =
    ap (bursts_from limit []) (spelled limit burst more c)
    ∙ (joined_bursts limit [] c.0 (c.1 ∷ more) c.3
    ∙ (ap (λ b. cond b ((c.0 ++ c.1 ∷ []) ∷ bursts_from limit [] more) (bursts_from limit (c.0 ++ c.1 ∷ []) more)) (ap (is_full limit) (sym c.2) ∙ c.4)
    ∙ ap (λ l. l ∷ bursts_from limit [] more) (sym c.2)))

first_rest : (limit : ℕ) (burst more : List Item) → IsClosedByLast limit burst → rest_from limit [] (burst ++ more) ≡ rest_from limit [] more
unfolding rest_from
first_rest limit burst more c =
    ap (rest_from limit []) (spelled limit burst more c)
    ∙ (joined_rest limit [] c.0 (c.1 ∷ more) c.3
    ∙ ap (λ b. cond b (rest_from limit [] more) (rest_from limit (c.0 ++ c.1 ∷ []) more)) (ap (is_full limit) (sym c.2) ∙ c.4))

-- a cut has these bursts, and no others
same_bursts : (limit : ℕ) (bursts : List (List Item)) (rest : List Item) → All (IsClosedByLast limit) bursts → is_full limit rest ≡ false → bursts ≡ bursts_from limit [] (in_a_row bursts ++ rest)
unfolding bursts_from
same_bursts limit [] rest closed open_still = sym (ap (bursts_from limit []) (sym (append-nil rest)) ∙ joined_bursts limit [] rest [] open_still)
same_bursts limit (b ∷ bs) rest closed open_still =
    ap (λ l. b ∷ l) (same_bursts limit bs rest (All-tail (IsClosedByLast limit) b bs closed) open_still)
    ∙ sym (ap (bursts_from limit []) (append_assoc b (in_a_row bs) rest) ∙ first_burst limit b (in_a_row bs ++ rest) (All-head (IsClosedByLast limit) b bs closed))

same_rest : (limit : ℕ) (bursts : List (List Item)) (rest : List Item) → All (IsClosedByLast limit) bursts → is_full limit rest ≡ false → rest ≡ rest_from limit [] (in_a_row bursts ++ rest)
unfolding rest_from
same_rest limit [] rest closed open_still = sym (ap (rest_from limit []) (sym (append-nil rest)) ∙ joined_rest limit [] rest [] open_still)
same_rest limit (b ∷ bs) rest closed open_still =
    same_rest limit bs rest (All-tail (IsClosedByLast limit) b bs closed) open_still
    ∙ sym (ap (rest_from limit []) (append_assoc b (in_a_row bs) rest) ∙ first_rest limit b (in_a_row bs ++ rest) (All-head (IsClosedByLast limit) b bs closed))

pub only_bursts : (limit : ℕ) (items : List Item) (bursts : List (List Item)) (rest : List Item) → IsCut limit items bursts rest → bursts ≡ bursts_from limit [] items
only_bursts limit items bursts rest cut = same_bursts limit bursts rest cut.closed cut.not_full ∙ ap (bursts_from limit []) cut.row

pub only_rest : (limit : ℕ) (items : List Item) (bursts : List (List Item)) (rest : List Item) → IsCut limit items bursts rest → rest ≡ rest_from limit [] items
only_rest limit items bursts rest cut = same_rest limit bursts rest cut.closed cut.not_full ∙ ap (rest_from limit []) cut.row

pub is_cut : (limit : ℕ) (items : List Item) → 0 < limit → IsCut limit items (bursts_from limit [] items) (rest_from limit [] items)
is_cut limit items lt = record {
  row = bursts_in_a_row limit [] items;
  closed = bursts_closed limit [] items (nothing_is_full limit lt) (nothing_is_full limit lt);
  not_full = rest_open limit [] items (nothing_is_full limit lt) (nothing_is_full limit lt);
}
