-- Believed: the last of a list, and the list with its last one changed.
use Rattle.std.specs.Prelude.{◌-◌, List, [], ◌∷◌, length, Option, slice_get}

abbrev pub latest : {A : Type 0} → List A → Option A
latest xs = slice_get xs (length xs - 1)

abbrev pub change_latest : {A : Type 0} → (A → A) → List A → List A
change_latest f [] = []
change_latest f (x ∷ []) = f x ∷ []
change_latest f (x ∷ y ∷ ys) = x ∷ change_latest f (y ∷ ys)
