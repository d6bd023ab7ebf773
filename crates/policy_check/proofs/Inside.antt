-- Which functions are in a list.
use Rattle.std.proofs.Common.{◌≡◌, ℕ, ◌≤◌, Bool, true, false, ◌||◌, not, cond, List, [], ◌∷◌, length, Some, None, refl, sym, ap, ◌∙◌, arith, reverse}
use Rattle.std.specs.Prelude.{find, ◌==◌}
use Rattle.std.specs.List.{list_any, AllByRecursion}
use Rattle.std.proofs.lemmas.Bool.Decides.{nat_tests}
use Rattle.std.proofs.lemmas.List.Sorted.{IsPermutation-reverse, list_any-IsPermutation}
use Rattle.policy_check.specs.Turns.{without}
use Rattle.policy_check.proofs.Ascending.{length-without}

abbrev pub inside : ℕ → List ℕ → Bool
inside x xs = list_any (λ y. y == x) xs

-- no function twice
abbrev pub AreDistinct : List ℕ → Type 0
AreDistinct [] = Unit {0}
AreDistinct (x ∷ xs) = (inside x xs ≡ false) × AreDistinct xs

-- each is in the other list
abbrev pub AreInside : List ℕ → List ℕ → Type 0
AreInside ys xs = AllByRecursion (λ x. inside x ys ≡ true) xs

pub inside-without : (z x : ℕ) (ys : List ℕ) → (z == x) ≡ false → inside z (without x ys) ≡ inside z ys
inside-without z x [] e = refl
inside-without z x (y ∷ ys) e =
    let rest = inside-without z x ys e in
    elim (y == x) as (λ b. (y == x) ≡ b → inside z (cond (not b) (y ∷ without x ys) (without x ys)) ≡ ((y == z) || inside z ys)) [
      | true ↦ λ t. let other : (y == z) ≡ false = grind (arith, nat_tests) in rw other rest
      | false ↦ λ t. ap (λ r. (y == z) || r) rest
    ] refl

pub AreInside-without : (x : ℕ) (ys xs : List ℕ) → inside x xs ≡ false → AreInside ys xs → AreInside (without x ys) xs
AreInside-without x ys [] e h = tt
AreInside-without x ys (z ∷ zs) e h =
    let other : (z == x) ≡ false = grind arith in
    let rest : inside x zs ≡ false = grind arith in
    (inside-without z x ys other ∙ h.0, AreInside-without x ys zs rest h.1)

-- a list that has this number of different functions is at least as long
pub length-distinct : (ys xs : List ℕ) → AreDistinct xs → AreInside ys xs → length xs ≤ length ys
length-distinct ys [] d h = omega arith
length-distinct ys (x ∷ xs) d h =
    let rest = length-distinct (without x ys) xs d.1 (AreInside-without x ys xs d.0 h.1) in
    let fewer = length-without x ys h.0 in
    omega arith

-- if a search finds nothing, nothing passes
pub any-from_find : (p : ℕ → Bool) (xs : List ℕ) → find p xs ≡ None → list_any p xs ≡ false
any-from_find p [] e = refl
any-from_find p (x ∷ xs) e =
    elim (p x) as (λ b. cond b (Some x) (find p xs) ≡ None → (b || list_any p xs) ≡ false) [ true ↦ λ f. cc | false ↦ λ f. any-from_find p xs f ] e

pub find_none_inside : (p : ℕ → Bool) (xs : List ℕ) (x : ℕ) → find p xs ≡ None → inside x xs ≡ true → p x ≡ false
find_none_inside p [] x e i = cc
find_none_inside p (y ∷ ys) x e i =
    elim (p y) as (λ b. p y ≡ b → cond b (Some y) (find p ys) ≡ None → p x ≡ false) [
      | true ↦ λ t f. cc
      | false ↦ λ t f. elim (y == x) as (λ b. (y == x) ≡ b → (b || inside x ys) ≡ true → p x ≡ false) [
        | true ↦ λ s j. let same : y ≡ x = grind (arith, nat_tests) in rw (← same) t
        | false ↦ λ s j. find_none_inside p ys x f j
      ] refl i
    ] refl e

pub inside-reverse : (x : ℕ) (xs : List ℕ) → inside x (reverse xs) ≡ inside x xs
inside-reverse x xs = sym (list_any-IsPermutation (λ y. y == x) xs (reverse xs) (IsPermutation-reverse xs))
