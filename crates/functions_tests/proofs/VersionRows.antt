-- The stages of the tests.
use Rattle.std.proofs.Common.{◌≡◌, List, [], ◌∷◌, refl}
use Rattle.action_profile.specs.Modes.{mode_of, modes_of}
use Rattle.action_profile.specs.Profiles.{profile_of}
use Rattle.action_profile.specs.declared.kind.Kind.TheVariants.{Nat}
use Rattle.action_profile.specs.declared.parts.Mode.TheVariants.{Shared, Moved}
use Rattle.action_profile.specs.declared.parts.Touch.{Touch}

-- a nat alone
abbrev pub translating : List Touch
translating = record { reads = (profile_of Nat).reads; writes = (profile_of Nat).writes } ∷ []

pub translating_modes : modes_of translating ≡ Shared ∷ Shared ∷ Shared ∷ Shared ∷ Shared ∷ Moved 0 ∷ Moved 0 ∷ Moved 0 ∷ Moved 0 ∷ Shared ∷ []
unfolding mode_of
translating_modes = refl
