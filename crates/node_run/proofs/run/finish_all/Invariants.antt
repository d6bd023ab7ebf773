use Rattle.std.proofs.Common.{◌≡◌, ◌++◌, map}
use Rattle.std.specs.Vec.Iter.{into_iter_items}
use Rattle.packet_fields.specs.declared.field.Field.{Field}
use Rattle.packet_version.specs.Tallies.{count_of, raised}
use Rattle.node_run.specs.Nodes.{copies_by_all, gather}
use Rattle.node_run.specs.Runs.{flat}
use Rattle.node_run.specs.Starts.{crew_of}
use Rattle.node_run.proofs.run.finish_all.Given as goal

abbrev pub invariant-loop-one : goal.invariant-loop-one
invariant-loop-one g l =
    (goal.iterator-loop-one g).can_next l.one-iterator ×
    (goal.iterator-loop-one g).is_finite l.one-iterator ×
    (l.functions.items ++ gather g.F.BranchWork.kit (flat (map crew_of (into_iter_items l.one-iterator))) ≡ gather g.F.BranchWork.kit (flat (map crew_of l.fn.started.items))) ×
    ((f : Field) → raised (count_of l.tally f) (copies_by_all f (flat (map crew_of (into_iter_items l.one-iterator)))) ≡ raised (count_of l.fn.dealt.tally f) (copies_by_all f (flat (map crew_of l.fn.started.items))))
