use Rattle.std.proofs.Common.{sym}
use Rattle.node_run.proofs.Wiring.{none_left}
use Rattle.node_run.proofs.Crewing.{all_ended, next_going, none_ended, one_ended}
use Rattle.node_run.proofs.crew.end_all.Goals as goal

pub loop-node-init : goal.loop-node-init
loop-node-init g c = (
  tt,
  tt,
  none_ended g.F.BranchWork.kit g.F.BranchWork.may _ _ _ _ _ c.into_iter-node-iterator.ensures.into_iter_gives.0 c.new-functions.ensures.items c.new-tally.ensures c.requires,
)

pub run_node-done-requires : goal.run_node-done-requires
run_node-done-requires g c = next_going g.F.BranchWork.kit g.F.BranchWork.may _ _ _ c.in-Some.node _ _ _ c.loop-node.invariant.2 c.in-Some.ensures.steps.0

pub loop-node-preserved : goal.loop-node-preserved
loop-node-preserved g c = (
  tt,
  tt,
  one_ended g.F.BranchWork.kit g.F.BranchWork.may _ _ _ c.in-Some.node c.run_node-done.result _ _ _ _ _ _ c.loop-node.invariant.2 c.in-Some.ensures.steps.0 c.run_node-done.ensures c.keep_or_short-short.ensures,
)

pub returns : goal.returns
returns g c = all_ended g.F.BranchWork.kit g.F.BranchWork.may _ _ _ _ _ c.loop-node.invariant.2 (none_left _ _ c.in-None.ensures.steps.0 (sym c.loop-node.node-iterator.rest.ok.0))
