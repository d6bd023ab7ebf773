use Rattle.std.proofs.Common.{◌++◌, ◌∷◌, [], ℕ, List, map}
use Rattle.std.specs.Vec.Iter.{into_iter_items}
use Rattle.packet_fields.specs.declared.field.Field.{Field}
use Rattle.node_run.specs.Nodes.{AreNodes}
use Rattle.node_run.specs.Edges.{ends_at, to_replicas, to_split}
use Rattle.node_run.proofs.Replicating.{AreComing}
use Rattle.node_run.proofs.Edging.{WillJoin}
use Rattle.node_run.proofs.replicas.push_replicas.Given as goal

abbrev pub invariant-loop-replica : goal.invariant-loop-replica
invariant-loop-replica g l =
    (goal.iterator-loop-replica g).can_next l.replica-iterator ×
    (goal.iterator-loop-replica g).is_finite l.replica-iterator ×
    AreComing g.F.BranchWork.kit g.F.BranchWork.may l.fn.work l.mergers l.merger l.count (into_iter_items l.replica-iterator) l.inlets l.ends ×
    ((fs : List _) (c : Field → ℕ) → AreNodes g.F.BranchWork.kit g.F.BranchWork.may l.fn.nodes.items fs c → AreNodes g.F.BranchWork.kit g.F.BranchWork.may l.nodes.items (fs ++ l.fn.work ∷ []) c) ×
    WillJoin (map ends_at l.fn.nodes.items ++ to_split l.mergers l.count l.fn.inlets l.fn.ends) l.nodes.items (to_replicas l.mergers l.merger l.count l.inlets l.ends)
