use Rattle.std.proofs.Common.{◌≡◌, ◌++◌, All}
use Rattle.std.specs.Vec.Iter.{into_iter_items}
use Rattle.packet_fields.specs.declared.field.Field.{Field}
use Rattle.packet_version.specs.Tallies.{count_of, raised}
use Rattle.node_run.specs.Nodes.{copies_by_all, gather, is_ready}
use Rattle.node_run.specs.Runs.{flat}
use Rattle.node_run.proofs.in_turn.run_groups.Given as goal

abbrev pub invariant-loop-group : goal.invariant-loop-group
invariant-loop-group g l =
    (goal.iterator-loop-group g).can_next l.group-iterator ×
    (goal.iterator-loop-group g).is_finite l.group-iterator ×
    (All (All (is_ready g.F.BranchWork.kit g.F.BranchWork.may)) (into_iter_items l.group-iterator)) ×
    (l.functions.items ++ gather g.F.BranchWork.kit (flat (into_iter_items l.group-iterator)) ≡ gather g.F.BranchWork.kit (flat l.fn.groups.items)) ×
    ((f : Field) → raised (count_of l.tally f) (copies_by_all f (flat (into_iter_items l.group-iterator))) ≡ raised (count_of l.fn.dealt.tally f) (copies_by_all f (flat l.fn.groups.items)))
