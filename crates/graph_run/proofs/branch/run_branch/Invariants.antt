use Rattle.chain_walk.specs.Counting.{quiet}
use Rattle.graph_law.specs.Branches.{BranchEnd.Live}
use Rattle.graph_run.specs.Carrying.{as_version}
use Rattle.graph_run.proofs.NotedInTurn.{TurnsNoted}
use Rattle.graph_run.proofs.TurnsInBranch.{InTurn}
use Rattle.graph_run.proofs.branch.run_branch.Given as goal

abbrev pub invariant-loop-position : goal.invariant-loop-position
invariant-loop-position g l = record {
  turn : InTurn (quiet g.F.Function.behaviour) l.positions l.fn.functions l.functions l.fn.version l.version l.position-index;
  noted : TurnsNoted (quiet g.F.Function.behaviour) g.F.Function.notes l.positions l.fn.functions l.functions l.fn.version (Live (as_version l.version)) l.position-index l.fn.notes.items l.notes.items;
}
