-- Believed: whether a pattern occurs in a payload.
use Rattle.std.specs.Prelude.{ℕ, List, [], ◌∷◌, Bool, true, false, ◌==◌, ◌&&◌, ◌||◌}
use Rattle.std.specs.List.{list_any}

-- the payload begins with the pattern's bytes
abbrev pub begins : List ℕ → List ℕ → Bool
begins [] payload = true
begins (c ∷ pattern) [] = false
begins (c ∷ pattern) (b ∷ payload) = (b == c) && begins pattern payload

-- the pattern's bytes are at some place of the payload
abbrev pub occurs : List ℕ → List ℕ → Bool
occurs pattern [] = begins pattern []
occurs pattern (b ∷ payload) = begins pattern (b ∷ payload) || occurs pattern payload

-- one of the patterns occurs
abbrev pub some_occurs : List (List ℕ) → List ℕ → Bool
some_occurs patterns payload = list_any (λ pattern. occurs pattern payload) patterns
