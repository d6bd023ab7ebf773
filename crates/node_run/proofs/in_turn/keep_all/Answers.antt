use Rattle.std.proofs.Common.{sym}
use Rattle.node_run.proofs.Wiring.{none_left}
use Rattle.node_run.proofs.Grouping.{all_kept, none_kept, one_kept}
use Rattle.node_run.proofs.in_turn.keep_all.Goals as goal

pub loop-done-init : goal.loop-done-init
loop-done-init g c = (tt, tt, none_kept _ _ _ _ c.into_iter-done-iterator.ensures.into_iter_gives.0 c.new-functions.ensures.items c.new-tally.ensures)

pub loop-done-preserved : goal.loop-done-preserved
loop-done-preserved g c = (tt, tt, one_kept _ _ _ c.in-Some.done _ _ _ _ c.loop-done.invariant.2 c.in-Some.ensures.steps.0 c.in_ok-keep.ensures)

pub returns : goal.returns
returns g c = all_kept _ _ _ c.loop-done.invariant.2 (none_left _ _ c.in-None.ensures.steps.0 (sym c.loop-done.done-iterator.rest.ok.0))
