-- Rows of fates that are taken off to the end.
use Rattle.std.proofs.Common.{◌≡◌, List, [], ◌∷◌, length, refl, arith}
use Rattle.std.specs.Prelude.{ℕ}

-- a row without length has no fate left
pub nothing_left : {X : Type 0} (row : List X) (n : ℕ) → n ≡ length row → n ≡ 0 → row ≡ []
nothing_left [] n many none = refl
nothing_left (x ∷ row) n many none = absurd (omega (arith, many, none))
