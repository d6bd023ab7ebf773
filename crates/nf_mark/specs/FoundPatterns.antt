-- For proofs: a pattern that is found in a payload, and what is overwritten then.
use Rattle.std.specs.Prelude.{◌≡◌, ◌<◌, ℕ, List, length, drop, Option, Some, None, option_map, IsSome}
use Rattle.patterns.specs.Overwriting.{redacted}
use Rattle.nf_mark.specs.Redactors.{redacted_payload}

-- There is a payload, in which the pattern at this place occurs: it is overwritten by this pattern and those after it.
pub record IsFoundAt (patterns : List (List ℕ)) (payload : Option (List ℕ)) (place : ℕ) : Type 0 where
  pub within : place < length patterns
  pub there : IsSome payload
  pub same : redacted_payload patterns payload ≡ option_map (redacted (drop place patterns)) payload

-- the place of the first pattern that occurs, none if nothing is overwritten
abbrev pub Finds : List (List ℕ) → Option (List ℕ) → Option ℕ → Type 0
Finds patterns payload None = redacted_payload patterns payload ≡ None
Finds patterns payload (Some place) = IsFoundAt patterns payload place
