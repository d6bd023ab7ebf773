-- For proofs: which graphs may be written for a chain.
use Rattle.std.specs.Prelude.{List, [], ◌∷◌, Option, Some, None}
use Rattle.std.specs.List.{AllZip, zip}
use Rattle.graph_compile.specs.Facts.{IsFull, IsLawful}
use Rattle.graph_compile.specs.declared.graph.Graph.{Graph as StagedGraph}
use Rattle.segment_run.specs.GraphRun.{profiles_of}
use Rattle.graph_text.specs.Chains.{profiles_in}
use Rattle.piece_walk.specs.Pieces.{Piece, Graph, Whole}
use Rattle.policy_check.specs.declared.fault.Order.{Order}
use Rattle.policy_text.specs.declared.policy.ChainPolicy.{ChainPolicy}
use Rattle.policy_chains.specs.NamedFunctions.{named_behaviour}
use Rattle.policy_chains.specs.declared.named.NamedFunction.{NamedFunction}

-- a graph that is written for a chain is lawful for its functions, and no stage and no branch of it is empty
abbrev pub Fits : ChainPolicy × Order → Option StagedGraph → Type 0
Fits x None = Unit {0}
Fits x (Some graph) = IsLawful graph (profiles_in x.0.functions x.1.positions) × IsFull graph

-- so is the graph of each chain for which one is written
abbrev pub FitAll : List ChainPolicy → List Order → List (Option StagedGraph) → Type 0
FitAll chains orders graphs = AllZip Fits (zip chains orders) graphs

-- the functions of a piece may run in this graph
abbrev pub CanRun : StagedGraph → Piece NamedFunction → Type 0
CanRun graph (Graph stages functions) = IsLawful graph (profiles_of named_behaviour functions) × IsFull graph
CanRun graph (Whole rewritten) = Unit {0}

-- so may those of a chain of one piece, if a graph is written
abbrev pub CanRunIn : Option StagedGraph → List (Piece NamedFunction) → Type 0
CanRunIn (Some graph) (piece ∷ []) = CanRun graph piece
CanRunIn graph pieces = Unit {0}
