-- The order that the turns give respects every edge, and there is one whenever some order does.
use Rattle.std.proofs.Common.{◌≡◌, ◌≢◌, ℕ, zero, suc, ◌+◌, ◌<◌, ◌≤◌, Bool, true, false, ◌||◌, not, cond, List, [], ◌∷◌, ◌++◌, length, Some, None, refl, sym, ◌∙◌, subst, arith, slice_index, append-nil}
use Rattle.std.specs.Prelude.{◌==◌, find, filter, IsPermutation, All}
use Rattle.std.specs.List.{list_any, AllByRecursion, range_with_len}
use Rattle.std.specs.Option.{option_map_or}
use Rattle.std.proofs.lemmas.Bool.Decides.{nat_tests}
use Rattle.std.proofs.lemmas.Grind.{get_or_default_zero}
use Rattle.std.proofs.lemmas.List.Elements.{All-from_recursion, recursion_from_All}
use Rattle.std.proofs.lemmas.List.Folds.{list_any-append}
use Rattle.std.proofs.lemmas.List.FromFn.{length-range_with_len}
use Rattle.std.proofs.lemmas.List.Sorted.{IsPermutation-refl, IsPermutation-trans, IsPermutation-cons, IsPermutation-middle, list_any-IsPermutation}
use Rattle.policy_check.specs.Arrangements.{RespectsEdges, IsArrangement, IsPath, IsCycle}
use Rattle.policy_check.specs.Checked.{order_of, left_of}
use Rattle.policy_check.specs.Edges.{Edges}
use Rattle.policy_check.specs.Turns.{is_held, ready, without, taken, stuck}
use Rattle.policy_check.proofs.Ascending.{Ascends, Ascends-filter, Ascends-range, without-below, length-without, find_passes, find_inside}
use Rattle.policy_check.proofs.Inside.{inside, AreInside, AreInside-without, find_none_inside}
use Rattle.policy_check.proofs.WaitingLemmas.{range-any}

-- facts about each that waits

all-filter : (P : ℕ → Type 0) (p : ℕ → Bool) (xs : List ℕ) → AllByRecursion P xs → AllByRecursion P (filter p xs)
all-filter P p [] h = tt
all-filter P p (x ∷ xs) h =
    elim (p x) as (λ b. AllByRecursion P (cond b (x ∷ filter p xs) (filter p xs))) [
      | true ↦ (h.0, all-filter P p xs h.1)
      | false ↦ all-filter P p xs h.1
    ]

all-found : (P : ℕ → Type 0) (p : ℕ → Bool) (xs : List ℕ) (x : ℕ) → AllByRecursion P xs → find p xs ≡ Some x → P x
all-found P p [] x h e = cc
all-found P p (y ∷ ys) x h e =
    elim (p y) as (λ b. cond b (Some y) (find p ys) ≡ Some x → P x) [
      | true ↦ λ f. let same : y ≡ x = cc in subst P same h.0
      | false ↦ λ f. all-found P p ys x h.1 f
    ] e

pub all-inside : (P : ℕ → Type 0) (xs : List ℕ) (x : ℕ) → AllByRecursion P xs → inside x xs ≡ true → P x
all-inside P [] x h i = cc
all-inside P (y ∷ ys) x h i =
    elim (y == x) as (λ b. (y == x) ≡ b → (b || inside x ys) ≡ true → P x) [
      | true ↦ λ t j. let same : y ≡ x = grind (arith, nat_tests) in subst P same h.0
      | false ↦ λ t j. all-inside P ys x h.1 j
    ] refl i

all-none : (p : ℕ → Bool) (xs : List ℕ) → list_any p xs ≡ false → AllByRecursion (λ x. p x ≡ false) xs
all-none p [] e = tt
all-none p (x ∷ xs) e =
    let here : p x ≡ false = grind arith in
    let rest : list_any p xs ≡ false = grind arith in
    (here, all-none p xs rest)

none-all : (p : ℕ → Bool) (xs : List ℕ) → AllByRecursion (λ x. p x ≡ false) xs → list_any p xs ≡ false
none-all p [] h = refl
none-all p (x ∷ xs) h = rw h.0 (none-all p xs h.1)

all-map : (P Q : ℕ → Type 0) (xs : List ℕ) → ((x : ℕ) → P x → Q x) → AllByRecursion P xs → AllByRecursion Q xs
all-map P Q [] f h = tt
all-map P Q (x ∷ xs) f h = (f x h.0, all-map P Q xs f h.1)

taken-all-are : (P : ℕ → Type 0) (edge : Edges) (turns : ℕ) (waiting : List ℕ) → AllByRecursion P waiting → AllByRecursion P (taken edge turns waiting)
unfolding taken
taken-all-are P edge zero waiting h = tt
taken-all-are P edge (suc turns) waiting h =
    elim (ready edge waiting) as (λ o. ready edge waiting ≡ o → AllByRecursion P (option_map_or (λ x. x ∷ taken edge turns (without x waiting)) o [])) [
      | None ↦ λ e. tt
      | Some x ↦ λ e. (all-found P (λ x. not (is_held edge waiting x)) waiting x h e, taken-all-are P edge turns (without x waiting) (all-filter P (λ y. not (y == x)) waiting h))
    ] refl

stuck-all-are : (P : ℕ → Type 0) (edge : Edges) (turns : ℕ) (waiting : List ℕ) → AllByRecursion P waiting → AllByRecursion P (stuck edge turns waiting)
unfolding stuck
stuck-all-are P edge zero waiting h = h
stuck-all-are P edge (suc turns) waiting h =
    elim (ready edge waiting) as (λ o. ready edge waiting ≡ o → AllByRecursion P (option_map_or (λ x. stuck edge turns (without x waiting)) o waiting)) [
      | None ↦ λ e. h
      | Some x ↦ λ e. stuck-all-are P edge turns (without x waiting) (all-filter P (λ y. not (y == x)) waiting h)
    ] refl

range-below : (a n : ℕ) → AllByRecursion (λ x. x < a + n) (range_with_len a n)
range-below a zero = tt
range-below a (suc n) =
    (omega arith, all-map (λ x. x < a + 1 + n) (λ x. x < a + suc n) (range_with_len (a + 1) n) (λ x l. omega arith) (range-below (a + 1) n))

pub below-count : (count : ℕ) → AllByRecursion (λ x. x < count) (range_with_len 0 count)
below-count count = all-map (λ x. x < 0 + count) (λ x. x < count) (range_with_len 0 count) (λ x l. omega arith) (range-below 0 count)

pub left-below : (edge : Edges) (count : ℕ) → AllByRecursion (λ x. x < count) (left_of edge count)
left-below edge count = stuck-all-are (λ x. x < count) edge count (range_with_len 0 count) (below-count count)

-- each function once

without-permutes : (x low : ℕ) (xs : List ℕ) → Ascends low xs → inside x xs ≡ true → IsPermutation xs (x ∷ without x xs)
without-permutes x low [] h i = cc
without-permutes x low (y ∷ ys) h i =
    elim (y == x) as (λ b. (y == x) ≡ b → (b || inside x ys) ≡ true → IsPermutation (y ∷ ys) (x ∷ cond (not b) (y ∷ without x ys) (without x ys))) [
      | true ↦ λ t j.
          let same : x ≡ y = grind (arith, nat_tests) in
          let rest : without x ys ≡ ys = without-below x (suc y) ys (omega arith) h.1 in
          let whole : x ∷ without x ys ≡ y ∷ ys = cc in
          rw whole (IsPermutation-refl (y ∷ ys))
      | false ↦ λ t j. IsPermutation-trans (y ∷ ys) (y ∷ x ∷ without x ys) (x ∷ y ∷ without x ys) (IsPermutation-cons y ys (x ∷ without x ys) (without-permutes x (suc y) ys h.1 j)) (IsPermutation-middle (y ∷ []) x (without x ys))
    ] refl i

taken-permutes : (edge : Edges) (turns : ℕ) (waiting : List ℕ) → Ascends 0 waiting → IsPermutation waiting (taken edge turns waiting ++ stuck edge turns waiting)
unfolding taken stuck
taken-permutes edge zero waiting h = IsPermutation-refl waiting
taken-permutes edge (suc turns) waiting h =
    elim (ready edge waiting) as (λ o. ready edge waiting ≡ o → IsPermutation waiting (option_map_or (λ x. x ∷ taken edge turns (without x waiting)) o [] ++ option_map_or (λ x. stuck edge turns (without x waiting)) o waiting)) [
      | None ↦ λ e. IsPermutation-refl waiting
      | Some x ↦ λ e. IsPermutation-trans waiting (x ∷ without x waiting) (x ∷ (taken edge turns (without x waiting) ++ stuck edge turns (without x waiting))) (without-permutes x 0 waiting h (find_inside (λ x. not (is_held edge waiting x)) waiting x e)) (IsPermutation-cons x (without x waiting) (taken edge turns (without x waiting) ++ stuck edge turns (without x waiting)) (taken-permutes edge turns (without x waiting) (Ascends-filter (λ y. not (y == x)) 0 waiting h)))
    ] refl

-- each has no edge from itself or from a later one
abbrev Respects : Edges → List ℕ → Type 0
Respects edge [] = Unit {0}
Respects edge (x ∷ xs) = AllByRecursion (λ a. edge a x ≡ false) (x ∷ xs) × Respects edge xs

taken-respects : (edge : Edges) (turns : ℕ) (waiting : List ℕ) → Respects edge (taken edge turns waiting)
unfolding taken
taken-respects edge zero waiting = tt
taken-respects edge (suc turns) waiting =
    elim (ready edge waiting) as (λ o. ready edge waiting ≡ o → Respects edge (option_map_or (λ x. x ∷ taken edge turns (without x waiting)) o [])) [
      | None ↦ λ e. tt
      | Some x ↦ λ e.
          let passes : not (is_held edge waiting x) ≡ true = find_passes (λ x. not (is_held edge waiting x)) waiting x e in
          let free : is_held edge waiting x ≡ false = grind arith in
          let P : ℕ → Type 0 = λ a. edge a x ≡ false in
          let all = all-none (λ a. edge a x) waiting free in
          ((all-found P (λ x. not (is_held edge waiting x)) waiting x all e, taken-all-are P edge turns (without x waiting) (all-filter P (λ y. not (y == x)) waiting all)), taken-respects edge turns (without x waiting))
    ] refl

by-place : (edge : Edges) (order : List ℕ) → Respects edge order → RespectsEdges edge order
by-place edge [] h i j l m e = absurd (omega arith)
by-place edge (x ∷ xs) h i zero l m e =
    let none = All-from_recursion (λ a. edge a x ≡ false) (x ∷ xs) h.0 i 0 l in cc
by-place edge (x ∷ xs) h zero (suc j) l m e = omega arith
by-place edge (x ∷ xs) h (suc i) (suc j) l m e =
    let rest = by-place edge xs h.1 i j (omega arith) (omega arith) e in omega arith

-- if none remain, the order is an arrangement
pub arranged : (edge : Edges) (count : ℕ) → left_of edge count ≡ [] → IsArrangement edge count (order_of edge count)
arranged edge count none = record {
  each_once =
      let all = taken-permutes edge count (range_with_len 0 count) (Ascends-range 0 count) in
      let order : order_of edge count ++ left_of edge count ≡ order_of edge count = rw none (append-nil (order_of edge count)) in
      rw order at all;
  respects = by-place edge (order_of edge count) (taken-respects edge count (range_with_len 0 count));
}

-- after a turn for each, none of those that remain is ready
pub stuck-ready : (edge : Edges) (turns : ℕ) (waiting : List ℕ) → length waiting ≤ turns → ready edge (stuck edge turns waiting) ≡ None
unfolding stuck
stuck-ready edge zero [] l = refl
stuck-ready edge zero (x ∷ xs) l = absurd (omega arith)
stuck-ready edge (suc turns) waiting l =
    elim (ready edge waiting) as (λ o. ready edge waiting ≡ o → ready edge (option_map_or (λ x. stuck edge turns (without x waiting)) o waiting) ≡ None) [
      | None ↦ λ e. e
      | Some x ↦ λ e.
          let fewer = length-without x waiting (find_inside (λ x. not (is_held edge waiting x)) waiting x e) in
          stuck-ready edge turns (without x waiting) (omega arith)
    ] refl

pub left-ready : (edge : Edges) (count : ℕ) → ready edge (left_of edge count) ≡ None
left-ready edge count = stuck-ready edge count (range_with_len 0 count) (omega (arith, length-range_with_len 0 count))

-- if an order respects every edge, one of those that wait is ready

respects-from : (edge : Edges) (order : List ℕ) → RespectsEdges edge order → Respects edge order
respects-from edge [] h = tt
respects-from edge (x ∷ xs) h =
    (recursion_from_All (λ a. edge a x ≡ false) (x ∷ xs) (λ k d l. rw (get_or_default_zero (x ∷ xs) k d l) (elim (edge (slice_index (x ∷ xs) k) x) as (λ b. edge (slice_index (x ∷ xs) k) x ≡ b → b ≡ false) [ true ↦ λ e. let before = h k 0 l (omega arith) e in absurd (omega arith) | false ↦ λ e. refl ] refl)), respects-from edge xs (λ i j l m e. let r = h (suc i) (suc j) (omega arith) (omega arith) e in omega arith))

inside-rest : (x : ℕ) (order waiting : List ℕ) → inside x waiting ≡ false → AreInside (x ∷ order) waiting → AreInside order waiting
inside-rest x order [] e h = tt
inside-rest x order (y ∷ ys) e h =
    let other : (x == y) ≡ false = grind (arith, nat_tests) in
    let rest : inside x ys ≡ false = grind arith in
    let first : ((x == y) || inside y order) ≡ true = h.0 in
    (grind arith, inside-rest x order ys rest h.1)

some-ready : (edge : Edges) (order waiting : List ℕ) → Respects edge order → AreInside order waiting → ready edge waiting ≡ None → waiting ≡ []
some-ready edge order [] h w none = refl
some-ready edge [] (y ∷ ys) h w none = cc
some-ready edge (x ∷ xs) (y ∷ ys) h w none =
    elim (inside x (y ∷ ys)) as (λ b. inside x (y ∷ ys) ≡ b → y ∷ ys ≡ []) [
      | true ↦ λ i.
          let held : not (is_held edge (y ∷ ys) x) ≡ false = find_none_inside (λ x. not (is_held edge (y ∷ ys) x)) (y ∷ ys) x none i in
          let P : ℕ → Type 0 = λ a. edge a x ≡ false in
          let free : is_held edge (y ∷ ys) x ≡ false = none-all (λ a. edge a x) (y ∷ ys) (all-map (λ a. inside a (x ∷ xs) ≡ true) P (y ∷ ys) (λ a j. all-inside P (x ∷ xs) a h.0 j) w) in
          absurd (grind arith)
      | false ↦ λ i. some-ready edge xs (y ∷ ys) h.1 (inside-rest x xs (y ∷ ys) i w) none
    ] refl

pub none_left : (edge : Edges) (count : ℕ) (order : List ℕ) → IsArrangement edge count order → left_of edge count ≡ []
none_left edge count order h =
    some-ready edge order (left_of edge count) (respects-from edge order h.respects) (all-map (λ x. x < count) (λ x. inside x order ≡ true) (left_of edge count) (λ x l. sym (list_any-IsPermutation (λ y. y == x) (range_with_len 0 count) order h.each_once) ∙ range-any (λ y. y == x) 0 count x (omega arith) (omega arith) (grind (arith, nat_tests))) (left-below edge count)) (left-ready edge count)

-- no function of a cycle gets a turn

path-pred : (edge : Edges) (s z x : ℕ) (us : List ℕ) → IsPath edge s (us ++ z ∷ []) → inside x (us ++ z ∷ []) ≡ true → list_any (λ a. edge a x) (s ∷ us) ≡ true
path-pred edge s z x [] h i =
    let same : z ≡ x = grind (arith, nat_tests) in
    let P : ℕ → Type 0 = λ t. (edge s t || false) ≡ true in
    let here : edge s z ≡ true = h.0 in
    subst P same (rw here refl)
path-pred edge s z x (u ∷ us) h i =
    elim (u == x) as (λ b. (u == x) ≡ b → (b || inside x (us ++ z ∷ [])) ≡ true → (edge s x || list_any (λ a. edge a x) (u ∷ us)) ≡ true) [
      | true ↦ λ t j.
          let same : u ≡ x = grind (arith, nat_tests) in
          let P : ℕ → Type 0 = λ t. (edge s t || list_any (λ a. edge a x) (u ∷ us)) ≡ true in
          let here : edge s u ≡ true = h.0 in
          subst P same (rw here refl)
      | false ↦ λ t j. let rest = path-pred edge u z x us h.1 j in grind arith
    ] refl i

cycle-pred : (edge : Edges) (x : ℕ) (cycle : List ℕ) → IsCycle edge cycle → inside x cycle ≡ true → list_any (λ a. edge a x) cycle ≡ true
cycle-pred edge x [] h i = absurd h
cycle-pred edge x (y ∷ ys) h i =
    let end : inside x (ys ++ y ∷ []) ≡ (inside x ys || ((y == x) || false)) = list_any-append (λ z. z == x) ys (y ∷ []) in
    let round : inside x (ys ++ y ∷ []) ≡ true = grind arith in
    path-pred edge y y x ys h round

pub any-inside : (p : ℕ → Bool) (ys : List ℕ) (x : ℕ) → inside x ys ≡ true → p x ≡ true → list_any p ys ≡ true
any-inside p [] x i e = cc
any-inside p (y ∷ ys) x i e =
    elim (y == x) as (λ b. (y == x) ≡ b → (b || inside x ys) ≡ true → (p y || list_any p ys) ≡ true) [
      | true ↦ λ t j. let same : y ≡ x = grind (arith, nat_tests) in let here : p y ≡ true = rw same e in rw here refl
      | false ↦ λ t j. let rest = any-inside p ys x j e in grind arith
    ] refl i

any-through : (p : ℕ → Bool) (waiting xs : List ℕ) → AreInside waiting xs → list_any p xs ≡ true → list_any p waiting ≡ true
any-through p waiting [] h e = cc
any-through p waiting (x ∷ xs) h e =
    elim (p x) as (λ b. p x ≡ b → (b || list_any p xs) ≡ true → list_any p waiting ≡ true) [
      | true ↦ λ t f. any-inside p waiting x h.0 t
      | false ↦ λ t f. any-through p waiting xs h.1 f
    ] refl e

stuck-keeps : (edge : Edges) (turns : ℕ) (waiting cycle : List ℕ) → IsCycle edge cycle → AreInside waiting cycle → AreInside (stuck edge turns waiting) cycle
unfolding stuck
stuck-keeps edge zero waiting cycle h w = w
stuck-keeps edge (suc turns) waiting cycle h w =
    elim (ready edge waiting) as (λ o. ready edge waiting ≡ o → AreInside (option_map_or (λ x. stuck edge turns (without x waiting)) o waiting) cycle) [
      | None ↦ λ e. w
      | Some x ↦ λ e.
          let passes : not (is_held edge waiting x) ≡ true = find_passes (λ x. not (is_held edge waiting x)) waiting x e in
          let outside : inside x cycle ≡ false = elim (inside x cycle) as (λ b. inside x cycle ≡ b → b ≡ false) [
            | true ↦ λ i. let held : is_held edge waiting x ≡ true = any-through (λ a. edge a x) waiting cycle w (cycle-pred edge x cycle h i) in absurd (grind arith)
            | false ↦ λ i. refl
          ] refl in
          stuck-keeps edge turns (without x waiting) cycle h (AreInside-without x waiting cycle outside w)
    ] refl

pub cycle_left : (edge : Edges) (count : ℕ) (cycle : List ℕ) → IsCycle edge cycle → All (λ x. x < count) cycle → left_of edge count ≢ []
cycle_left edge count [] h w none = h
cycle_left edge count (x ∷ xs) h w none =
    let start : AreInside (range_with_len 0 count) (x ∷ xs) = all-map (λ x. x < count) (λ x. inside x (range_with_len 0 count) ≡ true) (x ∷ xs) (λ x l. range-any (λ y. y == x) 0 count x (omega arith) (omega arith) (grind (arith, nat_tests))) (recursion_from_All (λ x. x < count) (x ∷ xs) w) in
    let end : AreInside (left_of edge count) (x ∷ xs) = stuck-keeps edge count (range_with_len 0 count) (x ∷ xs) h start in
    let gone : inside x [] ≡ true = (rw none at end).0 in
    cc
