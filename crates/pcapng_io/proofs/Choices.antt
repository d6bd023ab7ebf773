-- Choices by tests, one after another.
use Rattle.std.proofs.Common.{◌≡◌, ℕ, Bool, true, false, refl, arith}
use Rattle.std.specs.Prelude.{if◌then◌else◌, ◌==◌}
use Rattle.std.proofs.lemmas.Bool.Decides.{nat_tests}

pub otherwise : {X : Type 0} (b : Bool) (x y : X) → b ≡ false → (if b then x else y) ≡ y
otherwise true x y h = absurd cc
otherwise false x y h = refl

pub chosen : {X : Type 0} (b : Bool) (x y : X) → b ≡ true → (if b then x else y) ≡ x
chosen true x y h = refl
chosen false x y h = absurd cc

-- the same otherwise
pub other_same : {X : Type 0} (b : Bool) (x y z : X) → (b ≡ false → y ≡ z) → (if b then x else y) ≡ (if b then x else z)
other_same true x y z h = refl
other_same false x y z h = h refl

-- what holds for both choices
pub both : {X : Type 0} (P : X → Type 0) (b : Bool) (x y : X) → (b ≡ true → P x) → (b ≡ false → P y) → P (if b then x else y)
both P true x y h k = h refl
both P false x y h k = k refl

pub not_equal : (a b : ℕ) → (a ≡ b → ⊥) → (a == b) ≡ false
not_equal a b h = grind (arith, nat_tests)
