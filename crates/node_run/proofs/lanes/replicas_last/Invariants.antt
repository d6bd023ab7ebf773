use Rattle.std.proofs.Common.{ℕ, List}
use Rattle.std.specs.Vec.Iter.{into_iter_items}
use Rattle.packet_fields.specs.declared.field.Field.{Field}
use Rattle.node_run.specs.Crews.{AreSorted}
use Rattle.node_run.specs.Nodes.{AreNodes}
use Rattle.node_run.proofs.Edging.{AreOrdered}
use Rattle.node_run.proofs.lanes.replicas_last.Given as goal

abbrev pub invariant-loop-node : goal.invariant-loop-node
invariant-loop-node g l =
    (goal.iterator-loop-node g).can_next l.node-iterator ×
    (goal.iterator-loop-node g).is_finite l.node-iterator ×
    ((fs : List _) (c : Field → ℕ) → AreNodes g.F.BranchWork.kit g.F.BranchWork.may l.fn.nodes.items fs c → AreSorted g.F.BranchWork.kit g.F.BranchWork.may fs c l.first.items l.others.items (into_iter_items l.node-iterator)) ×
    AreOrdered l.fn.nodes.items l.first.items l.others.items (into_iter_items l.node-iterator)
