use Rattle.std.proofs.Common.{sym}
use Rattle.packet_messages.proofs.Boxing.{none_boxed, one_boxed, all_are_boxed}
use Rattle.packet_messages.proofs.Sweeps.{none_left}
use Rattle.packet_messages.proofs.message.all_boxed.Goals as goal

pub loop-part-init : goal.loop-part-init
loop-part-init g c = (tt, tt, none_boxed _ _ _ c.in_ok-row.ensures.items c.into_iter-part-iterator.ensures.into_iter_gives.0)

pub loop-part-preserved : goal.loop-part-preserved
loop-part-preserved g c = (tt, tt, one_boxed _ _ _ c.in-Some.part _ _ c.in_ok-message.message c.loop-part.invariant.2 c.in-Some.ensures.steps.0 c.in_ok-message.ensures c.in_ok-push.ensures.items)

pub returns : goal.returns
returns g c = all_are_boxed _ _ _ c.loop-part.invariant.2 (none_left _ _ c.in-None.ensures.steps.0 (sym c.loop-part.part-iterator.rest.ok.0))
