-- The arrivals of a packet, with one more in the table.
use Rattle.std.proofs.Common.{◌≡◌, ◌≢◌, ◌∙◌, ◌<◌, ◌≤◌, ◌+◌, ◌-◌, ℕ, zero, suc, List, [], ◌∷◌, ◌++◌, map, length, take, drop, set, get_or, sym, ap, refl, subst, arith, inl, inr, add-one, length-append}
use Rattle.std.specs.Prelude.{◌⊎◌, ◌↔◌, Option, Some, None, IsSome, IsNone, All, Contains, slice_set, slice_index_or, unwrap_or}
use Rattle.std.proofs.lemmas.List.{append-nil, drop_all, take_all}
use Rattle.std.specs.FinMap as finite
use Rattle.acc_table.specs.Arrivals.{Table, arrivals, with_arrival, nothing, IsOpen, HasRoomFor}
use Rattle.acc_table.specs.declared.table.Complete.{Complete}
use Rattle.packet_version.specs.Versions.{PlainVersion}
use Rattle.merge_ops.specs.declared.arrival.Arrival.{Arrival}
use Rattle.packet_messages.specs.Messages.{PlainMessage, Fits, AllFit, Owing, first, rest}
use Rattle.stage_nodes.specs.Streams.{as_arrival}
use Rattle.stage_nodes.specs.Gathering.{partly, IsGathering, IsReady, MayCome, ArrivalFits, RowFits}

is_or_not : (m n : ℕ) → (m ≡ n) ⊎ (m ≢ n)
is_or_not m n = grind arith

not_both : {T : Type 0} (o : Option T) → IsNone o → IsSome o → ⊥
not_both None n s = absurd cc
not_both (Some x) n s = absurd cc

some_or_none : {T : Type 0} (o : Option T) → IsSome o ⊎ IsNone o
some_or_none None = inr refl
some_or_none (Some x) = inl refl

-- what has arrived so far, and one more arrival

partly_put : {T : Type 0} (come : List T) (m : ℕ) (a : T) → slice_set (partly come (suc m)) (length come) (Some a) ≡ partly (come ++ a ∷ []) m
partly_put [] m a = refl
partly_put (x ∷ come) m a = ap (λ l. Some x ∷ l) (partly_put come m a)

partly_free : {T : Type 0} (come : List T) (m : ℕ) → slice_index_or (partly come m) (length come) None ≡ None
partly_free [] zero = refl
partly_free [] (suc m) = refl
partly_free (x ∷ come) m = partly_free come m

partly_length : {T : Type 0} (come : List T) (m : ℕ) → length (partly come m) ≡ length come + m
partly_length [] zero = refl
partly_length [] (suc m) = ap suc (partly_length [] m) ∙ omega arith
partly_length (x ∷ come) m = ap suc (partly_length come m) ∙ omega arith

partly_some_at : {T : Type 0} (come : List T) (k : ℕ) (d : Option T) → k < length (partly come 0) → IsSome (slice_index_or (partly come 0) k d)
partly_some_at [] k d less = absurd (omega arith)
partly_some_at (x ∷ come) zero d less = refl
partly_some_at (x ∷ come) (suc k) d less = partly_some_at come k d (omega arith)

partly_all : {T : Type 0} (come : List T) → All (λ a. IsSome a) (partly come 0)
partly_all come = partly_some_at come

partly_not : {T : Type 0} (come : List T) (m : ℕ) → All (λ a. IsSome a) (partly come (suc m)) → ⊥
partly_not {T} come m all =
    not_both {T = T} None refl (subst (λ o. IsSome o) (partly_free come (suc m)) (all (length come) None (let n = partly_length come (suc m) in omega arith)))

some_same : {T : Type 0} (xs ys : List T) → map (λ a. Some a) xs ≡ map (λ a. Some a) ys → xs ≡ ys
some_same [] [] e = refl
some_same [] (y ∷ ys) e = absurd cc
some_same (x ∷ xs) [] e = absurd cc
some_same (x ∷ xs) (y ∷ ys) e = let head : x ≡ y = cc in (λ i. head i ∷ some_same xs ys (rest_of e) i)
  where
    rest_of : {A : Type 0} {p q : A} {ps qs : List A} → p ∷ ps ≡ q ∷ qs → ps ≡ qs
    rest_of e = cc

not_open : {A : Type 0} (o : Option A) (d : A) → (IsSome o → ⊥) → unwrap_or o d ≡ d
not_open None d none = refl
not_open (Some x) d none = absurd (none refl)

abbrev pub HasRoomBelow : Type 0
HasRoomBelow = (t : Table Arrival) (pids : List ℕ) (pid : ℕ) → ((p : ℕ) → IsOpen t p → Contains pids p) → length pids ≤ t.entries → Contains pids pid → HasRoomFor t pid

-- what an arrival needs
pub record Needs (table : Table Arrival) (packet branch : ℕ) : Type 0 where
  pub free : slice_index_or (arrivals table packet) branch None ≡ None
  pub room : HasRoomFor table packet

pub needs : (come : List Arrival) (table : Table Arrival) (packet branch : ℕ) (into : List Arrival) → HasRoomBelow → MayCome come table packet branch into → Needs table packet branch
needs come table packet branch into room may = record {
  free = ap (λ l. slice_index_or l branch None) (may.gathering.here (less may)) ∙ ap (λ b. slice_index_or (partly come (table.branches - length come)) b None) may.next ∙ partly_free come (table.branches - length come);
  room = room table (packet ∷ []) packet (λ p is. contained p (may.gathering.only p is)) (let e = may.gathering.entries in omega arith) (contained packet refl);
}
  where
    less : MayCome come table packet branch into → length come < table.branches
    less may = let i = may.inside in let n = may.next in omega arith

    contained : (p : ℕ) → p ≡ packet → Contains (packet ∷ []) p
    contained p e = (0, omega arith, sym e)

-- what is in the row of the packet after the arrival
row_now : (come : List Arrival) (table : Table Arrival) (packet branch : ℕ) (arrival : Arrival) (into : List Arrival) → MayCome come table packet branch into → with_arrival table packet branch arrival ≡ partly (come ++ arrival ∷ []) (table.branches - suc (length come))
row_now come table packet branch arrival into may =
    ap (λ l. slice_set l branch (Some arrival)) (may.gathering.here (let i = may.inside in let n = may.next in omega arith))
    ∙ (λ i. slice_set (partly come (one_less i)) (may.next i) (Some arrival))
    ∙ partly_put come (table.branches - suc (length come)) arrival
  where
    one_less : table.branches - length come ≡ suc (table.branches - suc (length come))
    one_less = let i = may.inside in let n = may.next in omega arith

-- an arrival has come
pub one_came : (come : List Arrival) (table after : Table Arrival) (packet branch : ℕ) (arrival : Arrival) (into now : List Arrival) (o : Option Complete) → MayCome come table packet branch into →
    (IsSome o ↔ All (λ a. IsSome a) (with_arrival table packet branch arrival)) → (IsSome o → map (λ a. Some a) now ≡ with_arrival table packet branch arrival) → (IsNone o → now ≡ []) →
    (IsNone o → arrivals after packet ≡ with_arrival table packet branch arrival) → (IsNone o ↔ IsOpen after packet) → ((p : ℕ) → p ≢ packet → (IsOpen after p ↔ IsOpen table p)) →
    after.entries ≡ table.entries → after.branches ≡ table.branches → IsGathering (come ++ arrival ∷ []) after packet now
one_came come table after packet branch arrival into now o may complete values none_yet arrived still others entries branches = record {
  entries = let e = may.gathering.entries in omega arith;
  only = λ p is. only p is (is_or_not p packet);
  here = λ less. arrived (none less) ∙ row ∙ (λ i. partly (come ++ arrival ∷ []) (left i));
  waits = λ less. none_yet (none less);
  idle = λ le p is. not_both o (still.1 (subst (IsOpen after) (only p is (is_or_not p packet)) is)) (some le);
  whole = λ le. some_same now (come ++ arrival ∷ []) (values (some le) ∙ row ∙ ap (partly (come ++ arrival ∷ [])) (over le) ∙ append-nil (map (λ a. Some a) (come ++ arrival ∷ [])));
}
  where
    row : with_arrival table packet branch arrival ≡ partly (come ++ arrival ∷ []) (table.branches - suc (length come))
    row = row_now come table packet branch arrival into may

    longer : length (come ++ arrival ∷ []) ≡ suc (length come)
    longer = let n = length-append come (arrival ∷ []) in omega arith

    left : table.branches - suc (length come) ≡ after.branches - length (come ++ arrival ∷ [])
    left = omega (arith, longer, branches)

    over : after.branches ≤ length (come ++ arrival ∷ []) → table.branches - suc (length come) ≡ 0
    over le = omega (arith, longer, branches, le)

    only : (p : ℕ) → IsOpen after p → (p ≡ packet) ⊎ (p ≢ packet) → p ≡ packet
    only p is (inl e) = e
    only p is (inr ne) = may.gathering.only p ((others p ne).0 is)

    some : after.branches ≤ length (come ++ arrival ∷ []) → IsSome o
    some le = complete.1 (subst (All (λ a. IsSome a)) (sym (row ∙ ap (partly (come ++ arrival ∷ [])) (over le))) (partly_all (come ++ arrival ∷ [])))

    none : length (come ++ arrival ∷ []) < after.branches → IsNone o
    none less = by_case (some_or_none o)
      where
        more : table.branches - suc (length come) ≡ suc (table.branches - suc (suc (length come)))
        more = omega (arith, longer, branches, less)

        by_case : IsSome o ⊎ IsNone o → IsNone o
        by_case (inl s) = absurd (partly_not (come ++ arrival ∷ []) (table.branches - suc (suc (length come))) (subst (All (λ a. IsSome a)) (row ∙ ap (partly (come ++ arrival ∷ [])) more) (complete.0 s)))
        by_case (inr n) = n

-- a row of arrivals that fit, and one more

row_none : RowFits [] []
unfolding RowFits
row_none = tt

row_more : (columns : List (List (PlainMessage PlainVersion))) (j : ℕ) (come : List Arrival) (a : Arrival) → j < length columns → RowFits (map first (take j columns)) come → ArrivalFits (first (get_or columns j [])) a →
    RowFits (map first (take (suc j) columns)) (come ++ a ∷ [])
unfolding RowFits
row_more [] j come a less fits fit = absurd (omega arith)
row_more (c ∷ columns) zero [] a less fits fit = (fit, tt)
row_more (c ∷ columns) zero (x ∷ come) a less fits fit = absurd fits
row_more (c ∷ columns) (suc j) [] a less fits fit = absurd fits
row_more (c ∷ columns) (suc j) (x ∷ come) a less fits fit = (fits.0, row_more columns j come a (omega arith) fits.1 fit)

arrival_fits : (due message : PlainMessage PlainVersion) → Fits due message → ArrivalFits due (as_arrival message)
arrival_fits due message (inl e) = inl (ap as_arrival e)
arrival_fits due message (inr e) = inr (ap as_arrival e)

-- This number of branches have given their next arrivals, which are in the table.
pub record HasGathered (columns now : List (List (PlainMessage PlainVersion))) (table : Table Arrival) (packet j : ℕ) (into : List Arrival) : Type 0 where
  pub come : List Arrival
  pub gathering : IsGathering come table packet into
  pub many : length come ≡ j
  pub count : table.branches ≡ length columns
  pub fits : RowFits (map first (take j columns)) come
  pub left : now ≡ map rest (take j columns) ++ drop j columns

pub gathering_begins : (columns : List (List (PlainMessage PlainVersion))) (table : Table Arrival) (packet : ℕ) (into : List Arrival) → IsReady table (length columns) → into ≡ [] → HasGathered columns columns table packet 0 into
gathering_begins columns table packet into ready none = record {
  come = [];
  gathering = record {
    entries = ready.entries;
    only = λ p is. absurd (ready.idle p is);
    here = λ less. not_open (finite.get table.waiting packet) (nothing table.branches) (ready.idle packet) ∙ ap (λ n. nothing n) (omega arith);
    waits = λ less. none;
    idle = λ le. absurd (let c = ready.count in let s = ready.some in omega arith);
    whole = λ le. absurd (let c = ready.count in let s = ready.some in omega arith);
  };
  many = refl;
  count = ready.count;
  fits = row_none;
  left = refl;
}

next_left : (columns : List (List (PlainMessage PlainVersion))) (j : ℕ) → j < length columns → get_or (map rest (take j columns) ++ drop j columns) j [] ≡ get_or columns j []
next_left [] j less = absurd (omega arith)
next_left (s ∷ columns) zero less = refl
next_left (s ∷ columns) (suc j) less = next_left columns j (omega arith)

set_left : (columns : List (List (PlainMessage PlainVersion))) (j : ℕ) → j < length columns → set (map rest (take j columns) ++ drop j columns) j (rest (get_or columns j [])) ≡ map rest (take (suc j) columns) ++ drop (suc j) columns
set_left [] j less = absurd (omega arith)
set_left (s ∷ columns) zero less = refl
set_left (s ∷ columns) (suc j) less = ap (λ l. rest s ∷ l) (set_left columns j (omega arith))

left_length : (columns : List (List (PlainMessage PlainVersion))) (j : ℕ) → length (map rest (take j columns) ++ drop j columns) ≡ length columns
left_length [] zero = refl
left_length [] (suc j) = refl
left_length (s ∷ columns) zero = refl
left_length (s ∷ columns) (suc j) = ap suc (left_length columns j)

-- the next branch is there
pub next_there : (columns now : List (List (PlainMessage PlainVersion))) (table : Table Arrival) (packet j : ℕ) (into : List Arrival) → HasGathered columns now table packet j into → j < length columns → j < length now
next_there columns now table packet j into has inside = let n = ap length has.left ∙ left_length columns j in omega arith

-- and something is due from it
pub next_owes : (columns now : List (List (PlainMessage PlainVersion))) (table : Table Arrival) (packet j : ℕ) (into : List Arrival) → All Owing columns → HasGathered columns now table packet j into → j < length columns → Owing (get_or now j [])
next_owes columns now table packet j into owing has inside = subst Owing (sym (ap (λ l. get_or l j []) has.left ∙ next_left columns j inside)) (owing j [] inside)

-- and its arrival may come
pub next_may : (columns now : List (List (PlainMessage PlainVersion))) (table : Table Arrival) (packet j : ℕ) (into : List Arrival) → (has : HasGathered columns now table packet j into) → j < length columns → MayCome has.come table packet j into
next_may columns now table packet j into has inside = record {
  next = sym has.many;
  inside = let c = has.count in omega arith;
  gathering = has.gathering;
}

pub gathered_more : (columns now later : List (List (PlainMessage PlainVersion))) (table after : Table Arrival) (packet j : ℕ) (into more : List Arrival) (message : PlainMessage PlainVersion) → (has : HasGathered columns now table packet j into) → j < length columns →
    Fits (first (get_or now j [])) message → later ≡ set now j (rest (get_or now j [])) → IsGathering (has.come ++ as_arrival message ∷ []) after packet more → after.branches ≡ table.branches → HasGathered columns later after packet (j + 1) more
gathered_more columns now later table after packet j into more message has inside fits taken gathering branches = record {
  come = has.come ++ as_arrival message ∷ [];
  gathering = gathering;
  many = length-append has.come (as_arrival message ∷ []) ∙ ap (λ n. n + 1) has.many;
  count = branches ∙ has.count;
  fits = subst (λ k. RowFits (map first (take k columns)) (has.come ++ as_arrival message ∷ [])) (sym (add-one j)) (row_more columns j has.come (as_arrival message) inside has.fits (arrival_fits (first (get_or columns j [])) message (subst (λ l. Fits (first l) message) here fits)));
  left = taken ∙ ap (λ l. set l j (rest (get_or l j []))) has.left ∙ ap (λ l. set (map rest (take j columns) ++ drop j columns) j (rest l)) (next_left columns j inside) ∙ set_left columns j inside
      ∙ ap (λ k. map rest (take k columns) ++ drop k columns) (sym (add-one j));
}
  where
    here : get_or now j [] ≡ get_or columns j []
    here = ap (λ l. get_or l j []) has.left ∙ next_left columns j inside

-- all branches have given theirs
pub record HasAll (columns now : List (List (PlainMessage PlainVersion))) (table : Table Arrival) (into : List Arrival) : Type 0 where
  pub row : RowFits (map first columns) into
  pub left : now ≡ map rest columns
  pub ready : IsReady table (length now)

pub gathering_ends : (columns now : List (List (PlainMessage PlainVersion))) (before table : Table Arrival) (packet j : ℕ) (into : List Arrival) → IsReady before (length columns) → HasGathered columns now table packet j into → j ≡ length columns → HasAll columns now table into
gathering_ends columns now before table packet j into ready has over = record {
  row = subst (RowFits (map first columns)) (sym (has.gathering.whole le)) (subst (λ l. RowFits (map first l) has.come) (ap (λ k. take k columns) over ∙ take_all (length columns) columns (omega arith)) has.fits);
  left = has.left ∙ (λ i. map rest (take (over i) columns) ++ drop (over i) columns) ∙ (λ i. map rest (take_all (length columns) columns (omega arith) i) ++ drop_all (length columns) columns (omega arith) i) ∙ append-nil (map rest columns);
  ready = record {
    some = let s = ready.some in omega (arith, same);
    few = let f = ready.few in omega (arith, same);
    count = has.count ∙ sym same;
    entries = has.gathering.entries;
    idle = has.gathering.idle le;
  };
}
  where
    le : table.branches ≤ length has.come
    le = let c = has.count in let m = has.many in omega arith

    same : length now ≡ length columns
    same = ap length has.left ∙ left_length columns j

-- what a board hands over of a packet

pub row_of : (dues ms : List (PlainMessage PlainVersion)) → AllFit dues ms → RowFits dues (map as_arrival ms)
unfolding AllFit RowFits
row_of [] [] fit = tt
row_of [] (m ∷ ms) fit = fit
row_of (due ∷ dues) [] fit = fit
row_of (due ∷ dues) (m ∷ ms) fit = (arrival_fits due m fit.0, row_of dues ms fit.1)

pub row_of_length : (dues ms : List (PlainMessage PlainVersion)) → AllFit dues ms → length ms ≡ length dues
unfolding AllFit
row_of_length [] [] fit = refl
row_of_length [] (m ∷ ms) fit = absurd fit
row_of_length (due ∷ dues) [] fit = absurd fit
row_of_length (due ∷ dues) (m ∷ ms) fit = ap suc (row_of_length dues ms fit.1)
