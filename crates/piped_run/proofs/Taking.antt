-- Functions that are taken out of their places.
use Rattle.std.proofs.Common.{◌≡◌, ◌≢◌, ◌∙◌, ◌<◌, ◌≤◌, ◌+◌, ◌-◌, ℕ, zero, suc, Bool, List, [], ◌∷◌, ◌++◌, map, length, take, drop, get_or, set, append_assoc, append-nil, sym, ap, refl, subst, arith, inl, inr, eq-eqb, ne_eqb}
use Rattle.std.specs.Prelude.{◌⊎◌, ◌==◌, Option, Some, None, slice_get, if◌then◌else◌}
use Rattle.std.specs.List.{flat_map, cons_option}
use Rattle.std.proofs.lemmas.List.{drop_more, drop_all, get_or-set_other, length-set, length-map, map-append}
use Rattle.std.proofs.lemmas.List.Sums.{sum_by-cons}
use Rattle.std.proofs.lemmas.Grind.{flat_map-append}
use Rattle.chain_walk.specs.Step.{Behaviour}
use Rattle.graph_compile.specs.Facts.{positions_of, all_positions, times}
use Rattle.graph_compile.specs.declared.graph.Branch.{Branch}
use Rattle.graph_compile.specs.declared.graph.Stage.{Stage}
use Rattle.burst_law.specs.Owned.{owned, owned_in, owned_by}
use Rattle.stage_nodes.specs.Streams.{PlainStage}
use Rattle.stream_law.specs.Owned.{PlainOwned, any_counts}
use Rattle.stream_law.specs.Works.{works_in, works_of}
use Rattle.piped_run.specs.Places.{AreThere, at_place}
use Rattle.piped_run.specs.Standing.{EachStands}

abbrev one_if : Bool → ℕ
one_if t = if t then 1 else 0

-- how often a number is in a list
times_cons : (x q : ℕ) (qs : List ℕ) → times x (q ∷ qs) ≡ one_if (q == x) + times x qs
times_cons x q qs = sum_by-cons (λ y. if y == x then 1 else 0) q qs

one_here : (q : ℕ) → one_if (q == q) ≡ 1
one_here q = ap one_if (eq-eqb q q refl)

none_here : (x q : ℕ) → q ≢ x → one_if (q == x) ≡ 0
none_here x q ne = ap one_if (ne_eqb q x ne)

pub times_same : (q : ℕ) (qs : List ℕ) → times q (q ∷ qs) ≡ suc (times q qs)
times_same q qs = let a = times_cons q q qs in let b = one_here q in omega arith

pub times_other : (x q : ℕ) (qs : List ℕ) → q ≢ x → times x (q ∷ qs) ≡ times x qs
times_other x q qs ne = let a = times_cons x q qs in let b = none_here x q ne in omega arith

pub times_there : (qs : List ℕ) (j q : ℕ) → slice_get qs j ≡ Some q → 1 ≤ times q qs
times_there [] j q e = absurd cc
times_there (x ∷ qs) zero q e = let same : x ≡ q = cc in subst (λ y. 1 ≤ times y (x ∷ qs)) same (let t = times_same x qs in omega arith)
times_there (x ∷ qs) (suc j) q e = let rest = times_there qs j q e in let more = times_cons q x qs in omega arith

-- one is taken out of its place
pub taken_one : {F : Type 0} (functions : List F) (places : List (Option F)) (q : ℕ) (rest : List ℕ) → AreThere functions places (q ∷ rest) → AreThere functions (set places (q - 1) None) rest
taken_one {F} functions places q rest was = record {
  count = length-set places (q - 1) None ∙ was.count;
  within = λ j x e. was.within (suc j) x e;
  there = λ j x e. get_or-set_other places (q - 1) (x - 1) None None (apart j x e) ∙ was.there (suc j) x e;
  once = λ x. let some = was.once x in let more = times_cons x q rest in omega arith;
}
  where
    apart : (j x : ℕ) → slice_get rest j ≡ Some x → x - 1 ≢ q - 1
    apart j x e same =
        let low = (was.within 0 q refl).0 in let lower = (was.within (suc j) x e).0 in
        let is : x ≡ q = omega arith in
        let one = was.once q in let here = times_same q rest in
        let again : 1 ≤ times q rest = subst (λ y. 1 ≤ times y rest) is (times_there rest j x e) in
        omega arith

-- the function in a place
pub one_there : {F : Type 0} (functions : List F) (places : List (Option F)) (q : ℕ) (rest : List ℕ) → AreThere functions places (q ∷ rest) → (f : F) × (at_place places (q - 1) ≡ Some f) × (slice_get functions (q - 1) ≡ Some f)
one_there functions places q rest was = by_place functions (q - 1) (let w = was.within 0 q refl in omega arith) (was.there 0 q refl)
  where
    by_place : {F : Type 0} (fs : List F) (k : ℕ) → k < length fs → {o : Option F} → o ≡ slice_get fs k → (f : F) × (o ≡ Some f) × (slice_get fs k ≡ Some f)
    by_place [] k less is = absurd (omega arith)
    by_place (f ∷ fs) zero less is = (f, is, refl)
    by_place (f ∷ fs) (suc k) less is = by_place fs k (omega arith) is

-- this number of functions of a branch are taken
pub record Took {F : Type 0} (first now : List (Option F)) (positions : List ℕ) (own : List F) (i : ℕ) : Type 0 where
  pub owns : (functions : List F) (later : List ℕ) → AreThere functions first (positions ++ later) → own ++ owned (drop i positions) functions ≡ owned positions functions
  pub left : (functions : List F) (later : List ℕ) → AreThere functions first (positions ++ later) → AreThere functions now (drop i positions ++ later)

abbrev pub Somewhere : {F : Type 0} → List (Option F) → List ℕ → Type 0
Somewhere {F} places positions = (functions : List F) × (later : List ℕ) × AreThere functions places (positions ++ later)

pub took_none : {F : Type 0} (places : List (Option F)) (positions : List ℕ) (own : List F) → own ≡ [] → Took places places positions own 0
took_none places positions own none = record {
  owns = λ functions later there. ap (λ l. l ++ owned positions functions) none;
  left = λ functions later there. there;
}

-- what is next
next_there : {F : Type 0} (first now : List (Option F)) (positions : List ℕ) (own : List F) (i : ℕ) (functions : List F) (later : List ℕ) → Took first now positions own i → AreThere functions first (positions ++ later) → i < length positions →
    AreThere functions now (get_or positions i 0 ∷ (drop (i + 1) positions ++ later))
next_there first now positions own i functions later took there inside = subst (λ l. AreThere functions now (l ++ later)) (drop_more positions i 0 inside) (took.left functions later there)

pub next_within : {F : Type 0} (first now : List (Option F)) (positions : List ℕ) (own : List F) (i : ℕ) → Took first now positions own i → Somewhere first positions → i < length positions →
    (1 ≤ get_or positions i 0) × (get_or positions i 0 ≤ length now)
next_within first now positions own i took some inside =
    let next = next_there first now positions own i some.0 some.1 took some.2 inside in
    let w = next.within 0 (get_or positions i 0) refl in let n = next.count in
    (w.0, omega arith)

pub next_full : {F : Type 0} (first now : List (Option F)) (positions : List ℕ) (own : List F) (i : ℕ) → Took first now positions own i → Somewhere first positions → i < length positions →
    at_place now (get_or positions i 0 - 1) ≡ None → ⊥
next_full first now positions own i took some inside none =
    let next = next_there first now positions own i some.0 some.1 took some.2 inside in
    let f = one_there some.0 now (get_or positions i 0) (drop (i + 1) positions ++ some.1) next in
    full f.0 (sym none ∙ f.1)
  where
    full : {F : Type 0} (f : F) → None ≡ Some f → ⊥
    full f e = cc

pub took_more : {F : Type 0} (first now : List (Option F)) (positions : List ℕ) (own more : List F) (i : ℕ) (f : F) → Took first now positions own i → i < length positions → at_place now (get_or positions i 0 - 1) ≡ Some f → more ≡ own ++ f ∷ [] →
    Took first (set now (get_or positions i 0 - 1) None) positions more (i + 1)
took_more {F} first now positions own more i f took inside is push = record {
  owns = λ functions later there.
      let next = next_there first now positions own i functions later took there inside in
      let g = one_there functions now (get_or positions i 0) (drop (i + 1) positions ++ later) next in
      let same : f ≡ g.0 = some_same f g.0 (sym is ∙ g.1) in
      ap (λ l. l ++ owned (drop (i + 1) positions) functions) push
      ∙ append_assoc own (f ∷ []) (owned (drop (i + 1) positions) functions)
      ∙ ap (λ x. own ++ cons_option x (owned (drop (i + 1) positions) functions)) (ap (λ x. Some x) same ∙ sym g.2)
      ∙ ap (λ l. own ++ owned l functions) (sym (drop_more positions i 0 inside))
      ∙ took.owns functions later there;
  left = λ functions later there. taken_one functions now (get_or positions i 0) (drop (i + 1) positions ++ later) (next_there first now positions own i functions later took there inside);
}
  where
    some_same : (x y : F) → Some x ≡ Some y → x ≡ y
    some_same x y e = cc

pub took_all : {F : Type 0} (first now : List (Option F)) (positions : List ℕ) (own : List F) (i : ℕ) (functions : List F) (later : List ℕ) → Took first now positions own i → length positions ≤ i → AreThere functions first (positions ++ later) → (own ≡ owned positions functions) × AreThere functions now later
took_all first now positions own i functions later took past there =
    let none = drop_all i positions past in (
      sym (append-nil own) ∙ ap (λ l. own ++ owned l functions) (sym none) ∙ took.owns functions later there,
      subst (λ l. AreThere functions now (l ++ later)) none (took.left functions later there),
    )

-- the positions of one branch, and those of the others
positions_more : (b : Branch) (branches : List Branch) (later : List ℕ) → positions_of (b ∷ branches) ++ later ≡ b.positions ++ (positions_of branches ++ later)
positions_more b branches later = append_assoc b.positions (positions_of branches) later

-- the positions of one stage, and those of the others
stages_more : (s : Stage) (stages : List Stage) → all_positions (s ∷ stages) ≡ positions_of s.branches ++ all_positions stages
stages_more s stages = flat_map-append (λ (b : Branch). b.positions) s.branches (flat_map (λ (t : Stage). t.branches) stages)

pub branches_left : (branches : List Branch) (i : ℕ) (d : Branch) (later : List ℕ) → i < length branches → positions_of (drop i branches) ++ later ≡ (get_or branches i d).positions ++ (positions_of (drop (i + 1) branches) ++ later)
branches_left branches i d later inside = ap (λ l. positions_of l ++ later) (drop_more branches i d inside) ∙ positions_more (get_or branches i d) (drop (i + 1) branches) later

pub stages_left : (stages : List Stage) (i : ℕ) (d : Stage) → i < length stages → all_positions (drop i stages) ≡ positions_of (get_or stages i d).branches ++ all_positions (drop (i + 1) stages)
stages_left stages i d inside = ap all_positions (drop_more stages i d inside) ∙ stages_more (get_or stages i d) (drop (i + 1) stages)

-- one more list
pub list_more : {A : Type 0} (done more rest later all : List A) (x : A) → more ≡ done ++ x ∷ [] → rest ≡ x ∷ later → done ++ rest ≡ all → more ++ later ≡ all
list_more done more rest later all x push next is = ap (λ l. l ++ later) push ∙ (append_assoc done (x ∷ []) later ∙ (ap (λ l. done ++ l) (sym next) ∙ is))

-- this number of branches of a stage are works with their functions
pub record TookStage {F N : Type 0} (by : Behaviour F) (n : ℕ) (first now : List (Option F)) (branches : List Branch) (works : List (PlainOwned F N)) (i : ℕ) : Type 0 where
  pub owns : (functions : List F) (later : List ℕ) → AreThere functions first (positions_of branches ++ later) → works ++ works_in by (drop i branches) (owned_in (drop i branches) functions) n ≡ works_in by branches (owned_in branches functions) n
  pub left : (functions : List F) (later : List ℕ) → AreThere functions first (positions_of branches ++ later) → AreThere functions now (positions_of (drop i branches) ++ later)

pub stage_none : {F N : Type 0} (by : Behaviour F) (n : ℕ) (places : List (Option F)) (branches : List Branch) (works : List (PlainOwned F N)) → works ≡ [] → TookStage by n places places branches works 0
stage_none by n places branches works none = record {
  owns = λ functions later there. ap (λ l. l ++ works_in by branches (owned_in branches functions) n) none;
  left = λ functions later there. there;
}

pub branch_there : {F N : Type 0} (by : Behaviour F) (n : ℕ) (first now : List (Option F)) (branches : List Branch) (works : List (PlainOwned F N)) (i : ℕ) (d : Branch) (functions : List F) (later : List ℕ) → TookStage by n first now branches works i → i < length branches → AreThere functions first (positions_of branches ++ later) →
    AreThere functions now ((get_or branches i d).positions ++ (positions_of (drop (i + 1) branches) ++ later))
branch_there by n first now branches works i d functions later took inside there = subst (AreThere functions now) (branches_left branches i d later inside) (took.left functions later there)

-- the result of taking the functions at these positions
pub record Gave {F : Type 0} (positions : List ℕ) (before after : List (Option F)) (taken : List F) : Type 0 where
  pub own : (functions : List F) (later : List ℕ) → AreThere functions before (positions ++ later) → taken ≡ owned positions functions
  pub left : (functions : List F) (later : List ℕ) → AreThere functions before (positions ++ later) → AreThere functions after later

pub stage_more : {F N : Type 0} (by : Behaviour F) (n : ℕ) (first now after : List (Option F)) (branches : List Branch) (works more : List (PlainOwned F N)) (w : PlainOwned F N) (taken : List F) (i : ℕ) (d : Branch) → TookStage by n first now branches works i → i < length branches →
    Gave (get_or branches i d).positions now after taken → w ≡ record { functions = taken; positions = (get_or branches i d).positions; packets = n; counts = any_counts by taken; seen = 0; listed = [] } → more ≡ works ++ w ∷ [] → TookStage by n first after branches more (i + 1)
unfolding works_in
stage_more {F} {N} by n first now after branches works more w taken i d took inside gave same push = record {
  owns = λ functions later there.
      let x : Branch = get_or branches i d in
      let rest : List (PlainOwned F N) = works_in by (drop (i + 1) branches) (owned_in (drop (i + 1) branches) functions) n in
      let here = branch_there by n first now branches works i d functions later took inside there in
      list_more works more (works_in by (drop i branches) (owned_in (drop i branches) functions) n) rest (works_in by branches (owned_in branches functions) n) w push
      (ap (λ (l : List Branch). works_in by l (owned_in l functions) n) (drop_more branches i d inside)
      ∙ ap (λ (own : List F). record { functions = own; positions = x.positions; packets = n; counts = any_counts by own; seen = 0; listed = [] } ∷ rest) (sym (gave.own functions (positions_of (drop (i + 1) branches) ++ later) here))
      ∙ ap (λ (o : PlainOwned F N). o ∷ rest) (sym same))
      (took.owns functions later there);
  left = λ functions later there. gave.left functions (positions_of (drop (i + 1) branches) ++ later) (branch_there by n first now branches works i d functions later took inside there);
}

pub stage_all : {F N : Type 0} (by : Behaviour F) (n : ℕ) (first now : List (Option F)) (branches : List Branch) (works : List (PlainOwned F N)) (i : ℕ) (functions : List F) (later : List ℕ) → TookStage by n first now branches works i → length branches ≤ i → AreThere functions first (positions_of branches ++ later) →
    (works ≡ works_in by branches (owned_in branches functions) n) × AreThere functions now later
unfolding works_in
stage_all by n first now branches works i functions later took past there =
    let none = drop_all i branches past in (
      sym (append-nil works) ∙ ap (λ (l : List Branch). works ++ works_in by l (owned_in l functions) n) (sym none) ∙ took.owns functions later there,
      subst (λ l. AreThere functions now (positions_of l ++ later)) none (took.left functions later there),
    )

-- this number of stages are works with their functions
pub record TookAll {F N V : Type 0} (by : Behaviour F) (as_plain : V → PlainStage (PlainOwned F N)) (n : ℕ) (functions : List F) (now : List (Option F)) (stages : List Stage) (works : List V) (i : ℕ) : Type 0 where
  pub owns : map as_plain works ++ works_of by (drop i stages) (owned_by (drop i stages) functions) n ≡ works_of by stages (owned_by stages functions) n
  pub left : AreThere functions now (all_positions (drop i stages))

-- each function is in its place, and each position of a chain occurs once
in_place : {F : Type 0} (functions : List F) (k : ℕ) → k < length functions → at_place (map (λ f. Some f) functions) k ≡ slice_get functions k
in_place [] k less = absurd (omega arith)
in_place (f ∷ functions) zero less = refl
in_place (f ∷ functions) (suc k) less = in_place functions k (omega arith)

pub stands_within : (stages : List Stage) (n : ℕ) → EachStands stages n → (q : ℕ) → 1 ≤ times q (all_positions stages) → (1 ≤ q) × (q ≤ n)
stands_within stages n each q some = by_place (le_or q 1) (le_or n q)
  where
    le_or : (a b : ℕ) → (a < b) ⊎ (b ≤ a)
    le_or zero zero = inr (omega arith)
    le_or zero (suc b) = inl (omega arith)
    le_or (suc a) zero = inr (omega arith)
    le_or (suc a) (suc b) = elim (le_or a b) [ inl h ↦ inl (omega (arith, h)) | inr h ↦ inr (omega (arith, h)) ]

    by_place : (q < 1) ⊎ (1 ≤ q) → (n < q) ⊎ (q ≤ n) → (1 ≤ q) × (q ≤ n)
    by_place (inl low) high = absurd (let none = each.no_other q (inl low) in omega arith)
    by_place (inr low) (inl high) = absurd (let none = each.no_other q (inr high) in omega arith)
    by_place (inr low) (inr high) = (low, high)

pub all_there : {F : Type 0} (functions : List F) (stages : List Stage) → EachStands stages (length functions) → AreThere functions (map (λ f. Some f) functions) (all_positions stages)
all_there functions stages each = record {
  count = length-map functions (λ f. Some f);
  within = λ j q e. stands_within stages (length functions) each q (times_there (all_positions stages) j q e);
  there = λ j q e. let w = stands_within stages (length functions) each q (times_there (all_positions stages) j q e) in in_place functions (q - 1) (let low = w.0 in let high = w.1 in omega arith);
  once = λ q. once q;
}
  where
    some_or : (n : ℕ) → (n ≤ 1) ⊎ (1 ≤ n)
    some_or zero = inl (omega arith)
    some_or (suc n) = inr (omega arith)

    once : (q : ℕ) → times q (all_positions stages) ≤ 1
    once q = by_count (some_or (times q (all_positions stages)))
      where
        by_count : (times q (all_positions stages) ≤ 1) ⊎ (1 ≤ times q (all_positions stages)) → times q (all_positions stages) ≤ 1
        by_count (inl few) = few
        by_count (inr some) = let w = stands_within stages (length functions) each q some in let one = each.each_once q w.0 w.1 in omega arith

pub all_none : {F N V : Type 0} (by : Behaviour F) (as_plain : V → PlainStage (PlainOwned F N)) (n : ℕ) (functions : List F) (places : List (Option F)) (stages : List Stage) (works : List V) → works ≡ [] → places ≡ map (λ f. Some f) functions → EachStands stages (length functions) → TookAll by as_plain n functions places stages works 0
all_none {F} {N} {V} by as_plain n functions places stages works none full each = record {
  owns = ap (λ (l : List V). map as_plain l ++ works_of by stages (owned_by stages functions) n) none;
  left = subst (λ l. AreThere functions l (all_positions stages)) (sym full) (all_there functions stages each);
}

pub stage_there : {F N V : Type 0} (by : Behaviour F) (as_plain : V → PlainStage (PlainOwned F N)) (n : ℕ) (functions : List F) (now : List (Option F)) (stages : List Stage) (works : List V) (i : ℕ) (d : Stage) → TookAll by as_plain n functions now stages works i → i < length stages →
    AreThere functions now (positions_of (get_or stages i d).branches ++ all_positions (drop (i + 1) stages))
stage_there by as_plain n functions now stages works i d took inside = subst (AreThere functions now) (stages_left stages i d inside) took.left

pub all_more : {F N V : Type 0} (by : Behaviour F) (as_plain : V → PlainStage (PlainOwned F N)) (n : ℕ) (functions : List F) (now after : List (Option F)) (stages : List Stage) (works more : List V) (v : V) (i : ℕ) (d : Stage) → TookAll by as_plain n functions now stages works i → i < length stages →
    as_plain v ≡ record { parts = (get_or stages i d).parts; branches = works_in by (get_or stages i d).branches (owned_in (get_or stages i d).branches functions) n } →
    AreThere functions after (all_positions (drop (i + 1) stages)) → more ≡ works ++ v ∷ [] → TookAll by as_plain n functions after stages more (i + 1)
unfolding works_of
all_more {F} {N} {V} by as_plain n functions now after stages works more v i d took inside own left push = record {
  owns =
      let rest : List (PlainStage (PlainOwned F N)) = works_of by (drop (i + 1) stages) (owned_by (drop (i + 1) stages) functions) n in
      list_more (map as_plain works) (map as_plain more) (works_of by (drop i stages) (owned_by (drop i stages) functions) n) rest (works_of by stages (owned_by stages functions) n) (as_plain v)
      (ap (map as_plain) push ∙ map-append as_plain works (v ∷ []))
      (ap (λ (l : List Stage). works_of by l (owned_by l functions) n) (drop_more stages i d inside) ∙ ap (λ (x : PlainStage (PlainOwned F N)). x ∷ rest) (sym own)) took.owns;
  left = left;
}

pub all_taken : {F N V : Type 0} (by : Behaviour F) (as_plain : V → PlainStage (PlainOwned F N)) (n : ℕ) (functions : List F) (now : List (Option F)) (stages : List Stage) (works : List V) (i : ℕ) → TookAll by as_plain n functions now stages works i → length stages ≤ i → map as_plain works ≡ works_of by stages (owned_by stages functions) n
unfolding works_of
all_taken by as_plain n functions now stages works i took past = sym (append-nil (map as_plain works)) ∙ ap (λ (l : List Stage). map as_plain works ++ works_of by l (owned_by l functions) n) (sym (drop_all i stages past)) ∙ took.owns

-- the same places, lent, and the same branches
pub there_in : {F : Type 0} (functions : List F) (places lent : List (Option F)) (branches own : List Branch) (later : List ℕ) → lent ≡ places → branches ≡ own → AreThere functions places (positions_of own ++ later) → AreThere functions lent (positions_of branches ++ later)
there_in functions places lent branches own later lends same there = subst (λ l. AreThere functions l (positions_of branches ++ later)) (sym lends) (subst (λ l. AreThere functions places (positions_of l ++ later)) (sym same) there)

-- a list written back is that list
pub wrote_back : {A : Type 0} (n : ℕ) (xs ys : List A) → length xs ≡ n → take n (xs ++ drop (length xs) ys) ≡ xs
wrote_back n xs ys e = ap (λ k. take k (xs ++ drop (length xs) ys)) (sym e) ∙ front xs (drop (length xs) ys)
  where
    front : {A : Type 0} (xs ys : List A) → take (length xs) (xs ++ ys) ≡ xs
    front [] ys = refl
    front (x ∷ xs) ys = ap (λ l. x ∷ l) (front xs ys)
