use Rattle.std.proofs.Common.{◌≡◌, ◌++◌, map}
use Rattle.std.specs.Vec.Iter.{into_iter_items}
use Rattle.packet_messages.specs.Messages.{PlainMessage.Live, plain}
use Rattle.packet_messages.proofs.message.all_boxed.Given as goal

abbrev pub invariant-loop-part : goal.invariant-loop-part
invariant-loop-part g l =
    (goal.iterator-loop-part g).can_next l.part-iterator ×
    (goal.iterator-loop-part g).is_finite l.part-iterator ×
    (map plain l.row.items ++ map (λ p. Live p) (into_iter_items l.part-iterator) ≡ map (λ p. Live p) l.fn.parts.items)
