-- The front of a trail.
use Rattle.std.proofs.Common.{◌≡◌, ℕ, true, false, ◌||◌, not, cond, List, [], ◌∷◌, ◌++◌, refl, ap, ◌∙◌, arith, reverse}
use Rattle.std.specs.Prelude.{take_while, ◌==◌}
use Rattle.std.proofs.lemmas.Bool.Decides.{nat_tests}
use Rattle.std.proofs.lemmas.List.Sums.{take_while-cons}
use Rattle.policy_check.specs.Cycles.{up_to}
use Rattle.policy_check.proofs.Inside.{inside, inside-reverse}

up_to-take_while : (x : ℕ) (trail : List ℕ) → inside x trail ≡ true → up_to x trail ≡ take_while (λ y. not (y == x)) trail ++ x ∷ []
up_to-take_while x [] i = cc
up_to-take_while x (t ∷ ts) i =
    rw (take_while-cons (λ y. not (y == x)) t ts) (elim (t == x) as (λ b. (t == x) ≡ b → (b || inside x ts) ≡ true → cond b (t ∷ []) (t ∷ up_to x ts) ≡ cond (not b) (t ∷ take_while (λ y. not (y == x)) ts) [] ++ x ∷ []) [
      | true ↦ λ q j. let same : t ≡ x = grind (arith, nat_tests) in ap (λ y. y ∷ []) same
      | false ↦ λ q j. ap (λ r. t ∷ r) (up_to-take_while x ts j)
    ] refl i)

pub up_to-reverse : (x : ℕ) (trail : List ℕ) → inside x trail ≡ true → up_to x (reverse trail) ≡ take_while (λ y. not (y == x)) (reverse trail) ++ x ∷ []
up_to-reverse x trail i = up_to-take_while x (reverse trail) (inside-reverse x trail ∙ i)
