-- For proofs: functions that are taken out of those that were made.
use Rattle.std.specs.Prelude.{ℕ, List, Option, None, fold, slice_set}
use Rattle.net_functions.specs.declared.making.Made.{Made}

-- what is left if the function at this place is taken
abbrev pub without : List (Option Made) → ℕ → List (Option Made)
without made place = slice_set made place None

-- what is left if those at these places are
abbrev pub without_all : List (Option Made) → List ℕ → List (Option Made)
without_all made places = fold without made places
