use Rattle.std.specs.Vec.Iter.{into_iter_items}
use Rattle.node_run.proofs.Grouping.{AreKept}
use Rattle.node_run.proofs.in_turn.keep_all.Given as goal

abbrev pub invariant-loop-done : goal.invariant-loop-done
invariant-loop-done g l =
    (goal.iterator-loop-done g).can_next l.done-iterator ×
    (goal.iterator-loop-done g).is_finite l.done-iterator ×
    AreKept l.fn.dones.items (into_iter_items l.done-iterator) l.functions.items l.tally
