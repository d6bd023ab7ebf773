-- The modes of the two stages, computed by the definition.
use Rattle.std.proofs.Common.{◌≡◌, List, [], ◌∷◌, refl, Some}
use Rattle.action_profile.specs.Modes.{mode_of, modes_of}
use Rattle.action_profile.specs.declared.parts.Mode.TheVariants.{Shared, Copied}
use Rattle.action_profile.specs.declared.parts.Touch.{Touch}

abbrev pub watching : List Touch
watching = record { reads = record { 0 = 0x1e0 }; writes = record { 0 = 0 } } ∷ record { reads = record { 0 = 0x1e0 }; writes = record { 0 = 0 } } ∷ []

pub watching_modes : modes_of watching ≡ Shared ∷ Shared ∷ Shared ∷ Shared ∷ Shared ∷ Shared ∷ Shared ∷ Shared ∷ Shared ∷ Shared ∷ []
unfolding mode_of
watching_modes = refl

abbrev pub redacting : List Touch
redacting = record { reads = record { 0 = 512 }; writes = record { 0 = 512 } } ∷ record { reads = record { 0 = 512 }; writes = record { 0 = 512 } } ∷ []

pub redacting_modes : modes_of redacting ≡ Shared ∷ Shared ∷ Shared ∷ Shared ∷ Shared ∷ Shared ∷ Shared ∷ Shared ∷ Shared ∷ Copied (Some 0) ∷ []
unfolding mode_of
redacting_modes = refl
