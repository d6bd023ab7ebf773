-- For proofs: the functions of a chain and their graph, ready to run.
use Rattle.std.specs.Prelude.{◌≡◌, ◌≤◌, true, List, length, map}
use Rattle.action_profile.specs.declared.rights.Profile.{Profile}
use Rattle.chain_walk.specs.Step.{Behaviour}
use Rattle.graph_compile.specs.Facts.{IsLawful, IsFull}
use Rattle.graph_compile.specs.InARow.{copies_nothing}
use Rattle.graph_compile.specs.declared.graph.Graph.{Graph}

-- The functions in chain order, and the graph that they run in.
pub record PlainRunning (F : Type 0) : Type 0 where
  pub functions : List F
  pub graph : Graph

-- the profiles of functions, in chain order
abbrev pub profiles_of : {F : Type 0} → Behaviour F → List F → List Profile
profiles_of b functions = map b.profile functions

-- The graph is lawful for at most 64 functions, each stage has a branch, and each branch a function.
pub record IsRunning {F : Type 0} (b : Behaviour F) (functions : List F) (graph : Graph) : Type 0 where
  pub few : length functions ≤ 64
  pub lawful : IsLawful graph (profiles_of b functions)
  pub full : IsFull graph

-- The functions run also in this graph, which copies no field.
pub record IsRow {F : Type 0} (b : Behaviour F) (functions : List F) (row : Graph) : Type 0 where
  pub runs : IsRunning b functions row
  pub copies : copies_nothing row.stages ≡ true
