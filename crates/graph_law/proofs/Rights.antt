-- What the functions of a stage may do, side by side.
use Rattle.std.proofs.Common.{◌≡◌, ◌≢◌, ◌+◌, ℕ, List, ◌∷◌, [], true, false}
use Rattle.std.specs.Prelude.{◌⊎◌}
use Rattle.packet_fields.specs.declared.field.Field.{Field}
use Rattle.action_profile.specs.Modes.{has_touch}
use Rattle.action_profile.specs.Profiles.{reads_of, writes_of}
use Rattle.action_profile.specs.declared.parts.Touch.{Touch}
use Rattle.action_profile.specs.declared.rights.Profile.{Profile}

-- some function of branch `c`, from position `p` on, reads x
unfoldable pub Reads : (ℕ → ℕ) → ℕ → ℕ → List Profile → Field → Type 0
Reads side c p [] x = ⊥
Reads side c p (f ∷ fs) x = ((side p ≡ c) × (reads_of f x ≡ true)) ⊎ Reads side c (p + 1) fs x

unfoldable pub Writes : (ℕ → ℕ) → ℕ → ℕ → List Profile → Field → Type 0
Writes side c p [] x = ⊥
Writes side c p (f ∷ fs) x = ((side p ≡ c) × (writes_of f x ≡ true)) ⊎ Writes side c (p + 1) fs x

-- no function of branch `c`, from position `p` on, has a state
unfoldable pub Stateless : (ℕ → ℕ) → ℕ → ℕ → List Profile → Type 0
Stateless side c p [] = Unit {0}
Stateless side c p (f ∷ fs) = (side p ≡ c → f.state ≡ false) × Stateless side c (p + 1) fs

-- a function is forbidden before no later one of another branch
pub record Before (side : ℕ → ℕ) (p : ℕ) (f : Profile) (fs : List Profile) : Type 0 where
  pub unread : (c : ℕ) (x : Field) → side p ≢ c → Reads side c (p + 1) fs x → writes_of f x ≡ false
  pub stateless : (c : ℕ) → side p ≢ c → f.drops ≡ true → Stateless side c (p + 1) fs

unfoldable pub Apart : (ℕ → ℕ) → ℕ → List Profile → Type 0
Apart side p [] = Unit {0}
Apart side p (f ∷ fs) = Before side p f fs × Apart side (p + 1) fs

-- branch c touches what its functions read and write
pub record Touched (side : ℕ → ℕ) (c p : ℕ) (fs : List Profile) (t : Touch) : Type 0 where
  pub reads : (x : Field) → Reads side c p fs x → has_touch x t ≡ true
  pub writes : (x : Field) → Writes side c p fs x → has_touch x t ≡ true

-- the same for each branch from branch `c` on
unfoldable pub AllTouched : (ℕ → ℕ) → ℕ → ℕ → List Profile → List Touch → Type 0
AllTouched side c p fs [] = Unit {0}
AllTouched side c p fs (t ∷ touches) = Touched side c p fs t × AllTouched side (c + 1) p fs touches
