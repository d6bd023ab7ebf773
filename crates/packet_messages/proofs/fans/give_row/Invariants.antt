use Rattle.std.proofs.Common.{◌≡◌}
use Rattle.std.specs.Vec.Iter.{into_iter_items}
use Rattle.packet_messages.specs.Messages.{turned}
use Rattle.packet_messages.proofs.Sweeps.{swept, due_from, plains, next_of}
use Rattle.packet_messages.proofs.fans.give_row.Given as goal

abbrev pub invariant-loop-message : goal.invariant-loop-message
invariant-loop-message g l =
    (goal.iterator-loop-message g).can_next l.message-iterator ×
    (goal.iterator-loop-message g).is_finite l.message-iterator ×
    (l.list ≡ swept turned l.index l.fn.list) ×
    (plains (into_iter_items l.message-iterator) ≡ due_from next_of l.index l.fn.list)
