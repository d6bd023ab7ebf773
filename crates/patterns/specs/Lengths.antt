-- For proofs: a payload keeps its length, whatever is overwritten in it.
use Rattle.std.specs.Prelude.{◌≡◌, ℕ, zero, suc, ◌-◌, List, [], ◌∷◌, length, refl}
use Rattle.std.proofs.Common.{◌∙◌, ap}
use Rattle.std.proofs.lemmas.Bool.{cond_both}
use Rattle.patterns.specs.Occurrences.{begins}
use Rattle.patterns.specs.Overwriting.{overwritten_from, overwritten, redacted}

from_length : (left : ℕ) (pattern payload : List ℕ) → length (overwritten_from left pattern payload) ≡ length payload
from_length left pattern [] = refl
from_length (suc left) pattern (b ∷ payload) = ap suc (from_length left pattern payload)
from_length zero pattern (b ∷ payload) = cond_both (begins pattern (b ∷ payload)) _ _ (λ l. length l ≡ suc (length payload))
    (λ here. ap suc (from_length (length pattern - 1) pattern payload)) (λ other. ap suc (from_length 0 pattern payload))

pub same_length : (patterns : List (List ℕ)) (payload : List ℕ) → length (redacted patterns payload) ≡ length payload
same_length [] payload = refl
same_length (pattern ∷ patterns) payload = same_length patterns (overwritten pattern payload) ∙ from_length 0 pattern payload
