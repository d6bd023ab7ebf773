use Rattle.std.proofs.Common.{◌≡◌, ◌++◌}
use Rattle.std.specs.Vec.Iter.{into_iter_items}
use Rattle.node_run.proofs.on_board.branch_ends.Given as goal

abbrev pub invariant-loop-seat : goal.invariant-loop-seat
invariant-loop-seat l =
    goal.iterator-loop-seat.can_next l.seat-iterator ×
    goal.iterator-loop-seat.is_finite l.seat-iterator ×
    (l.ends ++ into_iter_items l.seat-iterator ≡ l.fn.seats.items)
