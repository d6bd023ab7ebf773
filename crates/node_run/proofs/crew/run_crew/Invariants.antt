use Rattle.node_run.specs.Crews.{HaveTurned}
use Rattle.node_run.proofs.crew.run_crew.Given as goal

abbrev pub invariant-loop-packet : goal.invariant-loop-packet
invariant-loop-packet g l = HaveTurned g.F.BranchWork.kit g.F.BranchWork.may l.fn.crew l.nodes.items
