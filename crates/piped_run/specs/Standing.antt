-- For proofs: stages that have the positions of a chain.
use Rattle.std.specs.Prelude.{◌≡◌, ◌<◌, ◌≤◌, ◌⊎◌, ℕ, List}
use Rattle.graph_compile.specs.Facts.{all_positions, times}
use Rattle.graph_compile.specs.declared.graph.Stage.{Stage}

-- Each position of a chain of this number of functions occurs once in the stages, and no other number does, as in a
-- lawful graph.
pub record EachStands (stages : List Stage) (count : ℕ) : Type 0 where
  pub each_once : (q : ℕ) → 1 ≤ q → q ≤ count → times q (all_positions stages) ≡ 1
  pub no_other : (q : ℕ) → (q < 1) ⊎ (count < q) → times q (all_positions stages) ≡ 0
