-- Functions in declared order, and one of them left out.
use Rattle.std.proofs.Common.{◌≡◌, ℕ, zero, suc, ◌+◌, ◌<◌, ◌≤◌, Bool, true, false, ◌&&◌, ◌||◌, not, cond, List, [], ◌∷◌, length, Some, refl, sym, ap, ◌∙◌, arith, slice_set}
use Rattle.std.specs.Prelude.{filter, find, ◌==◌}
use Rattle.std.specs.List.{list_any, range_with_len}
use Rattle.std.proofs.lemmas.Bool.Decides.{nat_tests}
use Rattle.std.proofs.lemmas.List.Elements.{filter_agree}
use Rattle.std.proofs.Math.ListN.{length-set}
use Rattle.policy_check.specs.Turns.{without}
use Rattle.policy_check.specs.Waiting.{is_up, waits}

-- each number is above those before it, and the first is at least this one
abbrev pub Ascends : ℕ → List ℕ → Type 0
Ascends low [] = Unit {0}
Ascends low (x ∷ xs) = (low ≤ x) × Ascends (suc x) xs

pub Ascends-lower : (low high : ℕ) (xs : List ℕ) → low ≤ high → Ascends high xs → Ascends low xs
Ascends-lower low high [] l h = tt
Ascends-lower low high (x ∷ xs) l h = let first : high ≤ x = h.0 in (omega arith, h.1)

pub Ascends-filter : (p : ℕ → Bool) (low : ℕ) (xs : List ℕ) → Ascends low xs → Ascends low (filter p xs)
Ascends-filter p low [] h = tt
Ascends-filter p low (x ∷ xs) h =
    let first : low ≤ x = h.0 in
    elim (p x) as (λ b. Ascends low (cond b (x ∷ filter p xs) (filter p xs))) [
      | true ↦ (h.0, Ascends-filter p (suc x) xs h.1)
      | false ↦ Ascends-lower low (suc x) (filter p xs) (omega arith) (Ascends-filter p (suc x) xs h.1)
    ]

pub Ascends-range : (a n : ℕ) → Ascends a (range_with_len a n)
Ascends-range a zero = tt
Ascends-range a (suc n) = (omega arith, Ascends-lower (suc a) (a + 1) (range_with_len (a + 1) n) (omega arith) (Ascends-range (a + 1) n))

-- an element below all stays when another is left out
pub without-below : (x low : ℕ) (xs : List ℕ) → x < low → Ascends low xs → without x xs ≡ xs
without-below x low [] l h = refl
without-below x low (y ∷ ys) l h =
    let first : low ≤ y = h.0 in
    let other : (y == x) ≡ false = grind (arith, nat_tests) in
    rw other (ap (λ t. y ∷ t) (without-below x (suc y) ys (omega arith) h.1))

filter-filter : (q p : ℕ → Bool) (xs : List ℕ) → filter q (filter p xs) ≡ filter (λ x. p x && q x) xs
filter-filter q p [] = refl
filter-filter q p (x ∷ xs) =
    elim (p x) as (λ b. filter q (cond b (x ∷ filter p xs) (filter p xs)) ≡ cond (b && q x) (x ∷ filter (λ x. p x && q x) xs) (filter (λ x. p x && q x) xs)) [
      | true ↦ ap (λ t. cond (q x) (x ∷ t) t) (filter-filter q p xs)
      | false ↦ filter-filter q p xs
    ]

is_up-set : (flags : List Bool) (x y : ℕ) → is_up (slice_set flags x false) y ≡ (is_up flags y && not (y == x))
is_up-set [] x y = refl
is_up-set (b ∷ flags) zero zero = grind arith
is_up-set (b ∷ flags) zero (suc y) = grind (arith, nat_tests)
is_up-set (b ∷ flags) (suc x) zero = grind (arith, nat_tests)
is_up-set (b ∷ flags) (suc x) (suc y) = is_up-set flags x y ∙ ap (λ t. is_up flags y && not t) (grind (arith, nat_tests))

-- clearing a flag leaves its function out
pub waits-set : (flags : List Bool) (x : ℕ) → waits (slice_set flags x false) ≡ without x (waits flags)
unfolding waits
waits-set flags x =
    let all = range_with_len 0 (length flags) in
    ap (λ n. filter (is_up (slice_set flags x false)) (range_with_len 0 n)) (length-set flags x false) ∙ filter_agree (is_up (slice_set flags x false)) (λ y. is_up flags y && not (y == x)) (is_up-set flags x) all ∙ sym (filter-filter (λ y. not (y == x)) (is_up flags) all)

pub length-filter : (p : ℕ → Bool) (xs : List ℕ) → length (filter p xs) ≤ length xs
length-filter p [] = omega arith
length-filter p (x ∷ xs) =
    let rest = length-filter p xs in
    elim (p x) as (λ b. length (cond b (x ∷ filter p xs) (filter p xs)) ≤ suc (length xs)) [ true ↦ omega arith | false ↦ omega arith ]

-- leaving out one that is there makes fewer
pub length-without : (x : ℕ) (xs : List ℕ) → list_any (λ y. y == x) xs ≡ true → length (without x xs) < length xs
length-without x [] e = cc
length-without x (y ∷ ys) e =
    elim (y == x) as (λ b. (b || list_any (λ y. y == x) ys) ≡ true → length (cond (not b) (y ∷ without x ys) (without x ys)) < suc (length ys)) [
      | true ↦ λ t. let rest = length-filter (λ y. not (y == x)) ys in omega arith
      | false ↦ λ t. let rest = length-without x ys t in omega arith
    ] e

-- what a search finds passes, and is in the list
pub find_passes : (p : ℕ → Bool) (xs : List ℕ) (x : ℕ) → find p xs ≡ Some x → p x ≡ true
find_passes p [] x e = cc
find_passes p (y ∷ ys) x e =
    elim (p y) as (λ b. p y ≡ b → cond b (Some y) (find p ys) ≡ Some x → p x ≡ true) [
      | true ↦ λ t f. let same : y ≡ x = cc in rw (← same) t
      | false ↦ λ t f. find_passes p ys x f
    ] refl e

pub find_inside : (p : ℕ → Bool) (xs : List ℕ) (x : ℕ) → find p xs ≡ Some x → list_any (λ y. y == x) xs ≡ true
find_inside p [] x e = cc
find_inside p (y ∷ ys) x e =
    elim (p y) as (λ b. cond b (Some y) (find p ys) ≡ Some x → ((y == x) || list_any (λ y. y == x) ys) ≡ true) [
      | true ↦ λ f. let same : y ≡ x = cc in let here : (y == x) ≡ true = grind (arith, nat_tests) in rw here refl
      | false ↦ λ f. let rest = find_inside p ys x f in grind arith
    ] e
