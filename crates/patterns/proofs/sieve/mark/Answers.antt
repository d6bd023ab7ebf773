use Rattle.patterns.proofs.Sieving.{window_marked}
use Rattle.patterns.proofs.sieve.mark.Goals as goal

pub returns-clause-marked : goal.returns-clause-marked
returns-clause-marked c =
    window_marked c.mark_slot.new.table c.mark_slot-2.new.table c.args.window c.args.group c.near_slot.result c.far_slot.result c.near_slot.ensures.slot c.far_slot.ensures.slot
    c.mark_slot.ensures.marked c.mark_slot-2.ensures.grows c.mark_slot-2.ensures.marked
