-- For proofs: a graph in which each function is where it is for a cause.
use Rattle.std.specs.Prelude.{◌≡◌, ℕ, List, Some, map, slice_get, slice_index, IsTrue}
use Rattle.action_profile.specs.declared.rights.Profile.{Profile}
use Rattle.graph_compile.specs.Causes.{IsJoinedForCause, IsClosedForCause}
use Rattle.graph_compile.specs.Facts.{rises, IsLawful, IsFull}
use Rattle.graph_compile.specs.declared.graph.Branch.{Branch}
use Rattle.graph_compile.specs.declared.graph.Graph.{Graph}
use Rattle.graph_compile.specs.declared.graph.Stage.{Stage}

-- the first function of a branch
abbrev pub first_of : Branch → ℕ
first_of branch = slice_index branch.positions 0

-- the first functions of the branches of each stage rise
abbrev pub AreListed : List Stage → Type 0
AreListed stages = (i : ℕ) (s : Stage) → slice_get stages i ≡ Some s → IsTrue (rises 0 (map first_of s.branches))

pub record IsPlacedForCause (graph : Graph) (chain : List Profile) : Type 0 where
  -- it may replace the chain, and no stage and no branch of it is empty
  pub lawful : IsLawful graph chain
  pub full : IsFull graph
  -- a function that isn't the first of its branch comes after one of the branch that is forbidden before it
  pub joined : IsJoinedForCause chain graph.stages
  -- two branches of a stage that is closed hold functions forbidden before the one that opens the next
  pub closed : IsClosedForCause chain graph.stages
  -- the branches of a stage, which have no order of their own, are listed in the order of their first functions
  pub listed : AreListed graph.stages
