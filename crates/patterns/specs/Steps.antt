-- For proofs: a payload that is overwritten occurrence by occurrence.
use Rattle.std.specs.Prelude.{◌≡◌, ◌<◌, ◌≤◌, ℕ, List, ◌++◌, length, take, drop, true, false, Option, Some, None}
use Rattle.patterns.specs.Occurrences.{some_occurs}
use Rattle.patterns.specs.Overwriting.{overwritten, redacted}

-- The first occurrence after a place is overwritten, and this is the place after it: the result for the rest is the
-- result for what follows that place.
pub record TakesNext (pattern : List ℕ) (from : ℕ) (old new : List ℕ) (end : ℕ) : Type 0 where
  pub further : from < end
  pub fits : end ≤ length new
  pub same_length : length new ≡ length old
  pub same : take end new ++ overwritten pattern (drop end new) ≡ take from old ++ overwritten pattern (drop from old)

-- No occurrence is left after a place.
pub record TakesNone (pattern : List ℕ) (from : ℕ) (old new : List ℕ) : Type 0 where
  pub stays : new ≡ old
  pub none : overwritten pattern (drop from old) ≡ drop from old

-- The pattern at this place occurs, and the payload is overwritten by it and those after it.
pub record OccursFirst (patterns : List (List ℕ)) (payload : List ℕ) (place : ℕ) : Type 0 where
  pub within : place < length patterns
  pub some : some_occurs patterns payload ≡ true
  pub same : redacted (drop place patterns) payload ≡ redacted patterns payload

-- the first pattern that occurs, none if none does
abbrev pub BeginsAt : List (List ℕ) → List ℕ → Option ℕ → Type 0
BeginsAt patterns payload None = some_occurs patterns payload ≡ false
BeginsAt patterns payload (Some place) = OccursFirst patterns payload place
