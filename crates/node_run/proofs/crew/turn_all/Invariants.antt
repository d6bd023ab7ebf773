use Rattle.node_run.specs.Crews.{HaveTurned}
use Rattle.node_run.proofs.crew.turn_all.Given as goal

abbrev pub invariant-loop-index : goal.invariant-loop-index
invariant-loop-index g l = HaveTurned g.F.BranchWork.kit g.F.BranchWork.may l.fn.nodes l.nodes
