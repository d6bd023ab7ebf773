-- Tests of each number of a list, and of each of a range.
use Rattle.std.proofs.Common.{◌≡◌, ℕ, zero, suc, ◌+◌, ◌<◌, ◌≤◌, Bool, true, false, ◌||◌, List, [], ◌∷◌, refl, sym, subst, arith}
use Rattle.std.specs.Prelude.{◌==◌}
use Rattle.std.specs.List.{list_any, list_all, range_with_len, AllByRecursion}
use Rattle.std.proofs.lemmas.Bool.Decides.{nat_tests}
use Rattle.action_profile.specs.declared.rights.Profile.{Profile}
use Rattle.graph_compile.specs.declared.graph.Branch.{Branch}
use Rattle.graph_compile.specs.Lawful.{Stands, IsLawfulStage}
use Rattle.graph_compile.specs.Stages.{stage_of}

-- a test of each number that is in a list
pub list_all-from : (p : ℕ → Bool) (xs : List ℕ) → ((q : ℕ) → list_any (λ x. x == q) xs ≡ true → p q ≡ true) → list_all p xs ≡ true
list_all-from p [] h = refl
list_all-from p (x ∷ xs) h =
    let here : (x == x) ≡ true = grind (arith, nat_tests) in
    let first : p x ≡ true = h x (grind arith) in
    let rest = list_all-from p xs (λ q i. h q (grind arith)) in
    grind arith

pub list_all-at : (p : ℕ → Bool) (xs : List ℕ) (q : ℕ) → list_all p xs ≡ true → list_any (λ x. x == q) xs ≡ true → p q ≡ true
list_all-at p [] q h i = cc
list_all-at p (x ∷ xs) q h i =
    elim (x == q) as (λ b. (x == q) ≡ b → (b || list_any (λ x. x == q) xs) ≡ true → p q ≡ true) [
      | true ↦ λ e j. let same : x ≡ q = grind (arith, nat_tests) in let P : ℕ → Type 0 = λ n. p n ≡ true in subst P same (grind arith)
      | false ↦ λ e j. list_all-at p xs q (grind arith) j
    ] refl i

-- a test of each number of a range
pub range_all-from : (p : ℕ → Bool) (a n : ℕ) → ((q : ℕ) → a ≤ q → q < a + n → p q ≡ true) → list_all p (range_with_len a n) ≡ true
range_all-from p a zero h = refl
range_all-from p a (suc n) h =
    let first : p a ≡ true = h a (omega arith) (omega arith) in
    let rest = range_all-from p (a + 1) n (λ q l u. h q (omega arith) (omega arith)) in
    grind arith

pub range_all-at : (p : ℕ → Bool) (a n q : ℕ) → list_all p (range_with_len a n) ≡ true → a ≤ q → q < a + n → p q ≡ true
range_all-at p a zero q h l u = absurd (omega arith)
range_all-at p a (suc n) q h l u =
    elim (a == q) as (λ b. (a == q) ≡ b → p q ≡ true) [
      | true ↦ λ e. let same : a ≡ q = grind (arith, nat_tests) in let P : ℕ → Type 0 = λ n. p n ≡ true in subst P same (grind arith)
      | false ↦ λ e. let other : a < q = grind (arith, nat_tests) in range_all-at p (a + 1) n q (grind arith) (omega arith) (omega arith)
    ] refl

pub all-from_recursion : {X : Type 0} (p : X → Bool) (xs : List X) → AllByRecursion (λ x. p x ≡ true) xs → list_all p xs ≡ true
all-from_recursion p [] h = refl
all-from_recursion p (x ∷ xs) h = let first = h.0 in let rest = all-from_recursion p xs h.1 in grind arith

pub recursion-from_all : {X : Type 0} (p : X → Bool) (xs : List X) → list_all p xs ≡ true → AllByRecursion (λ x. p x ≡ true) xs
recursion-from_all p [] h = tt
recursion-from_all p (x ∷ xs) h = (grind arith, recursion-from_all p xs (grind arith))

-- a stage as the rule makes it
pub IsLawfulStage-made : (chain : List Profile) (first next : ℕ) (bs : List Branch) → Stands chain first next bs → IsLawfulStage chain first (stage_of chain bs)
IsLawfulStage-made chain first next bs s = record { stands = subst (λ n. Stands chain first n bs) (sym s.count) s; parts = refl }
