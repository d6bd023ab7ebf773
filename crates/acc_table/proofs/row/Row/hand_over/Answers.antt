use Rattle.std.proofs.Common.{None, rules}
use Rattle.acc_table.proofs.Handing.{emptied_more, handed_more}
use Rattle.acc_table.proofs.row.Row.hand_over.Goals as goal

pub loop-slot-preserved : goal.loop-slot-preserved
loop-slot-preserved g c =
    let all = c.deref_mut-slot-items.result.now in
    let i = c.loop-slot.slot-index in
    let slot = c.slot-item.result in (
      handed_more c.loop-slot.slot-items all c.loop-slot.into.items c.hand_over_one.new.into.items i None slot (search rules) c.loop-slot.invariant.1 c.loop-slot.invariant.0 c.hand_over_one.ensures.value,
      rw c.hand_over_one.ensures.empty (emptied_more c.loop-slot.slot-items all i None slot (search rules) c.loop-slot.invariant.1),
      search rules,
      search rules,
    )
