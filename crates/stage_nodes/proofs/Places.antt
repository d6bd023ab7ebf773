-- The packets that a node takes, by their numbers.
use Rattle.std.proofs.Common.{◌≡◌, ◌≢◌, ◌≤◌, ◌+◌, ◌-◌, ◌*◌, ◌∙◌, ℕ, zero, suc, List, ◌∷◌, refl, arith, ap, sym, subst}
use Rattle.stage_nodes.specs.Turns.{places}
use Rattle.stage_nodes.proofs.Branching.{next_few}
use Rattle.stage_nodes.proofs.Ends.{some_more}

places_next : (p step count : ℕ) → count ≢ 0 → places p step count ≡ p ∷ places (p + step) step (count - 1)
unfolding places
places_next p step zero ne = absurd (ne refl)
places_next p step (suc n) ne =
    let e : n ≡ suc n - 1 = omega arith in
    ap (λ c. p ∷ places (p + step) step c) e

-- after a turn
pub places_turned : (p p' step step' count count' : ℕ) → count ≢ 0 → p' ≡ p → step' ≡ step → count' ≡ count
    → places p step count ≡ p ∷ places (p' + step') step' (count' - 1)
places_turned p p' step step' count count' ne e s c =
    places_next p step count ne ∙ (λ j. p ∷ places (sym e j + sym s j) (sym s j) (sym c j - 1))

-- the next numbers aren't too large
pub few_turned : (p p' step step' count count' : ℕ) → count ≢ 0 → p' ≡ p → step' ≡ step → count' ≡ count
    → p + count * step ≤ 4294967295 → p' + step' + (count' - 1) * step' ≤ 4294967295
few_turned p p' step step' count count' ne e s c few =
    let next : p + step + (count - 1) * step ≤ 4294967295 =
    next_few step p (count - 1) (subst (λ n. p + n * step ≤ 4294967295) (some_more count ne) few) in
    subst (λ y. y + step' + (count' - 1) * step' ≤ 4294967295) (sym e)
    (subst (λ y. p + y + (count' - 1) * y ≤ 4294967295) (sym s) (subst (λ y. p + step + (y - 1) * step ≤ 4294967295) (sym c) next))

pub place_fits : (p step n : ℕ) → p + step + n * step ≤ 4294967295 → p + step ≤ 4294967295
place_fits p step n = at_most (p + step) (n * step)
  where
    at_most : (a b : ℕ) → a + b ≤ 4294967295 → a ≤ 4294967295
    at_most a b le = omega (arith, le)
