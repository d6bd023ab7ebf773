use Rattle.std.proofs.Common.{subst, sym}
use Rattle.node_run.specs.Crews.{AreSorted}
use Rattle.node_run.proofs.Wiring.{none_left}
use Rattle.node_run.proofs.Sorting.{none_sorted, all_sorted}
use Rattle.node_run.proofs.Edging.{all_ordered, none_ordered, one_ordered}
use Rattle.node_run.proofs.lanes.replicas_last.Goals as goal

pub loop-node-init : goal.loop-node-init
loop-node-init g c = (
  tt,
  tt,
  λ fs copies a. none_sorted g.F.BranchWork.kit g.F.BranchWork.may _ _ _ _ fs copies c.into_iter-node-iterator.ensures.into_iter_gives.0 c.in_ok-first.ensures.items c.new-others.ensures.items a,
  none_ordered _ _ _ _ c.into_iter-node-iterator.ensures.into_iter_gives.0 c.in_ok-first.ensures.items c.new-others.ensures.items,
)

pub loop-node-preserved : goal.loop-node-preserved
loop-node-preserved g c = (
  tt,
  tt,
  λ fs copies a. c.in_ok-sort.ensures.nodes fs copies _ (subst (AreSorted g.F.BranchWork.kit g.F.BranchWork.may fs copies _ _) c.in-Some.ensures.steps.0 (c.loop-node.invariant.2 fs copies a)),
  one_ordered _ _ _ _ _ _ _ c.in-Some.node c.in-Some.ensures.steps.0 c.in_ok-sort.ensures.leads c.in_ok-sort.ensures.replicas c.loop-node.invariant.3,
)

pub returns-clause-order : goal.returns-clause-order
returns-clause-order g c = all_ordered _ _ _ _ _ c.loop-node.invariant.3 (none_left _ _ c.in-None.ensures.steps.0 (sym c.loop-node.node-iterator.rest.ok.0)) c.in_ok-append.ensures.items

pub returns-clause-nodes : goal.returns-clause-nodes
returns-clause-nodes g c fs copies a =
    all_sorted g.F.BranchWork.kit g.F.BranchWork.may _ _ _ _ fs copies (c.loop-node.invariant.2 fs copies a) (none_left _ _ c.in-None.ensures.steps.0 (sym c.loop-node.node-iterator.rest.ok.0)) c.in_ok-append.ensures.items
