-- For proofs: the lines of a table, each by itself.
use Rattle.std.specs.Prelude.{ℕ, List, map}
use Rattle.std.specs.List.{enumerate_from}

-- the line of each of these, in their order, by its place, counted from 0
abbrev pub rows_by : {X : Type 0} → (ℕ → X → List ℕ) → List X → List (List ℕ)
rows_by line items = map (λ e. line e.0 e.1) (enumerate_from 0 items)
