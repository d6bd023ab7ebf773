use Rattle.std.proofs.Common.{◌≤◌}
use Rattle.node_run.proofs.Replicating.{AreMade}
use Rattle.node_run.proofs.replicas.replicas_of.Given as goal

abbrev pub invariant-loop-replica : goal.invariant-loop-replica
invariant-loop-replica g l = AreMade g.F.BranchWork.kit l.work l._replica l.replicas.items × (l._replica ≤ l.count)
