-- For proofs: what a branch of a stage does with a field, by the branch's place.
use Rattle.std.specs.Prelude.{ℕ, Bool, false, List, slice_get}
use Rattle.std.specs.Option.{option_map_or}
use Rattle.action_profile.specs.declared.parts.Touch.{Touch}

-- what the branch at a place touches passes a test; places count from 0
abbrev pub passes_at : (Touch → Bool) → List Touch → ℕ → Bool
passes_at test touches place = option_map_or test (slice_get touches place) false
