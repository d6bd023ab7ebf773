-- For proofs: what is due on a board, row by row.
use Rattle.std.specs.Prelude.{ℕ, List, [], map, drop, slice_index_or}

-- the row of a branch
abbrev pub row_of : {A : Type 0} → List (List A) → ℕ → List A
row_of rows branch = slice_index_or rows branch []

-- of each row what remains from the packet of this number on
abbrev pub each_rest : {A : Type 0} → ℕ → List (List A) → List (List A)
each_rest from rows = map (drop from) rows
