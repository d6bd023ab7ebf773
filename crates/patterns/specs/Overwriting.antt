-- Believed: a payload in which patterns are overwritten.
use Rattle.std.specs.Prelude.{ℕ, zero, suc, ◌-◌, List, [], ◌∷◌, length, if◌then◌else◌, fold}
use Rattle.patterns.specs.Occurrences.{begins}

-- the byte that is written over others: a small x
abbrev pub cross : ℕ
cross = 120

-- From the left: the bytes that are left of an occurrence are overwritten, and then, if the payload begins with the
-- pattern, there is the next one.
abbrev pub overwritten_from : ℕ → List ℕ → List ℕ → List ℕ
overwritten_from left pattern [] = []
overwritten_from (suc left) pattern (b ∷ payload) = cross ∷ overwritten_from left pattern payload
overwritten_from zero pattern (b ∷ payload) = if begins pattern (b ∷ payload) then cross ∷ overwritten_from (length pattern - 1) pattern payload else b ∷ overwritten_from 0 pattern payload

-- each leftmost occurrence that doesn't overlap one before it is overwritten
abbrev pub overwritten : List ℕ → List ℕ → List ℕ
overwritten pattern payload = overwritten_from 0 pattern payload

-- pattern after pattern, each in the payload that the patterns before it left
abbrev pub redacted : List (List ℕ) → List ℕ → List ℕ
redacted patterns payload = fold (λ left pattern. overwritten pattern left) payload patterns
