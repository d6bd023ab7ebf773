-- Believed: a chain is cut before and after each function that rewrites packets whole. What is between two cuts is a
-- piece: functions that run in one graph, or one function that runs in none.
use Rattle.std.specs.Prelude.{Bool, ◌||◌, List, [], ◌∷◌, if◌then◌else◌}
use Rattle.std.specs.List.{list_any}

-- a function in front of pieces: in the first one, unless one of the two rewrites packets whole
abbrev pub in_front : {F : Type 0} → (F → Bool) → F → List (List F) → List (List F)
in_front whole f [] = (f ∷ []) ∷ []
in_front whole f (piece ∷ later) = if whole f || list_any whole piece then (f ∷ []) ∷ piece ∷ later else (f ∷ piece) ∷ later

-- the pieces of a chain
unfoldable pub cut : {F : Type 0} → (F → Bool) → List F → List (List F)
cut whole [] = []
cut whole (f ∷ later) = in_front whole f (cut whole later)
