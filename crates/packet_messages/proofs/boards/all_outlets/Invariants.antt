use Rattle.std.specs.Arc.{arc_value}
use Rattle.std.specs.Vec.Iter.{into_iter_items}
use Rattle.packet_messages.proofs.Dealt.{OutletsSoFar}
use Rattle.packet_messages.proofs.boards.all_outlets.Given as goal

abbrev pub invariant-loop-seat : goal.invariant-loop-seat
invariant-loop-seat g l =
    (goal.iterator-loop-seat g).can_next l.seat-iterator ×
    (goal.iterator-loop-seat g).is_finite l.seat-iterator ×
    OutletsSoFar (arc_value l.board) g.D.BoardDue.due (into_iter_items l.seat-iterator) l.outlets.items
