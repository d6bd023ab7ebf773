-- For proofs: the stages in which the pieces of a chain run, beside those that its plan shows.
use Rattle.std.specs.Prelude.{ℕ, List, if◌then◌else◌, Option, Some, None}
use Rattle.std.specs.List.{list_any}
use Rattle.graph_compile.specs.declared.graph.Stage.{Stage}
use Rattle.policy_text.specs.declared.policy.FunctionDecl.{FunctionDecl}
use Rattle.plan_text.specs.Plan.{is_whole_at, stages_of}
use Rattle.piece_walk.specs.Pieces.{Piece, Graph, Whole}
use Rattle.policy_chains.specs.declared.named.NamedFunction.{NamedFunction}

-- the stages in which a piece runs; none for one that rewrites packets whole
abbrev pub stages_run : Piece NamedFunction → Option (List Stage)
stages_run (Graph stages functions) = Some stages
stages_run (Whole rewritten) = None

-- the stages that a plan shows of the piece with these places, except of one that rewrites packets whole
abbrev pub stages_shown : List FunctionDecl → List ℕ → Option (List Stage)
stages_shown functions piece = if list_any (is_whole_at functions) piece then None else Some (stages_of functions piece)
