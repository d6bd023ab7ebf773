use Rattle.std.specs.Vec.Iter.{into_iter_items}
use Rattle.node_run.specs.Wired.{AreWiring}
use Rattle.node_run.proofs.branches.wire_branches.Given as goal

abbrev pub invariant-loop-work : goal.invariant-loop-work
invariant-loop-work g l =
    (goal.iterator-loop-work g).can_next l.work-iterator ×
    (goal.iterator-loop-work g).is_finite l.work-iterator ×
    AreWiring g.F.BranchWork.kit g.F.BranchWork.may l.touches l.fn.functions.items l.mergers g.D.LinkDue.due l.branch (into_iter_items l.work-iterator) l.ends.items l.wired
