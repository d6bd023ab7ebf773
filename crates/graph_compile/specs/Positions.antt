-- Believed: which positions of a chain are in a branch, and which in a stage.
use Rattle.std.specs.Prelude.{◌==◌, ℕ, Bool}
use Rattle.std.specs.List.{list_any}
use Rattle.graph_compile.specs.declared.graph.Branch.{Branch}
use Rattle.graph_compile.specs.declared.graph.Stage.{Stage}

-- a position is in a branch
abbrev pub holds : ℕ → Branch → Bool
holds position branch = list_any (λ q. q == position) branch.positions

-- a position is in a stage
abbrev pub stands : ℕ → Stage → Bool
stands position stage = list_any (holds position) stage.branches
