use Rattle.std.proofs.Common.{◌∙◌, ◌++◌, ap, sym}
use Rattle.std.specs.Vec.Iter.{into_iter_items}
use Rattle.node_run.proofs.Wiring.{none_left}
use Rattle.node_run.proofs.Crewing.{all_placed, flat_none, one_placed}
use Rattle.node_run.proofs.cut.groups_of.Goals as goal

pub loop-node-init : goal.loop-node-init
loop-node-init g c = (tt, tt, ap (λ y. y ++ into_iter_items c.into_iter-node-iterator.result) (flat_none _ c.new-groups.ensures.items) ∙ c.into_iter-node-iterator.ensures.into_iter_gives.0)

pub loop-node-preserved : goal.loop-node-preserved
loop-node-preserved g c = (tt, tt, one_placed _ _ _ _ _ c.in-Some.node c.loop-node.invariant.2 c.in-Some.ensures.steps.0 c.in_ok-place.ensures.nodes)

pub returns : goal.returns
returns g c = all_placed _ _ _ c.loop-node.invariant.2 (none_left _ _ c.in-None.ensures.steps.0 (sym c.loop-node.node-iterator.rest.ok.0))
