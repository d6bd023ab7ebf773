-- For proofs: where a pattern occurs, and what overwriting leaves, as relations beside the functions.
use Rattle.std.specs.Prelude.{◌≡◌, ◌≤◌, ℕ, List, ◌++◌, length, replicate, false}
use Rattle.patterns.specs.Occurrences.{occurs}
use Rattle.patterns.specs.Overwriting.{cross}

-- The payload is the pattern with something before it and something after it, either maybe empty.
pub record StandsIn (pattern payload : List ℕ) : Type 0 where
  pub before : List ℕ
  pub behind : List ℕ
  pub whole : payload ≡ before ++ (pattern ++ behind)

-- The pattern follows these bytes, and occurs nowhere further to the left.
pub record StandsFirst (pattern before behind : List ℕ) : Type 0 where
  pub leftmost : (left right : List ℕ) → before ++ (pattern ++ behind) ≡ left ++ (pattern ++ right) → length before ≤ length left

-- What the payload becomes: it stays if the pattern doesn't occur. Else what is before the first occurrence stays, the
-- occurrence is overwritten byte by byte, and what follows it becomes what it becomes by itself.
pub data Becomes (pattern : List ℕ) : List ℕ → List ℕ → Type 0 where
  stays : (payload : List ℕ) → occurs pattern payload ≡ false → Becomes pattern payload payload
  taken : (before behind after : List ℕ) → StandsFirst pattern before behind → Becomes pattern behind after →
      Becomes pattern (before ++ (pattern ++ behind)) (before ++ (replicate (length pattern) cross ++ after))
