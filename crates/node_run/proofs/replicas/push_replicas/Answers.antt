use Rattle.std.proofs.Common.{◌-◌, sym}
use Rattle.node_run.proofs.Wiring.{none_left}
use Rattle.node_run.proofs.Replicating.{all_coming, comes_next, first_added, first_fits, replica_added}
use Rattle.node_run.proofs.Edging.{split_done, split_first, split_more}
use Rattle.node_run.proofs.replicas.push_replicas.Goals as goal

pub replica_at-requires-clause-fits : goal.replica_at-requires-clause-fits
replica_at-requires-clause-fits g c = (c.requires.fits.0, c.args.mergers - 1, first_fits g.F.BranchWork.kit g.F.BranchWork.may _ _ _ _ _ _ c.requires.some c.requires.fits.1)

pub loop-replica-init : goal.loop-replica-init
loop-replica-init g c = (
  tt,
  tt,
  all_coming g.F.BranchWork.kit g.F.BranchWork.may _ c.args.mergers c.args.count c.requires.fits.0 _ _ _ _ _ _ c.requires.some c.requires.replicas c.into_iter-replica-iterator.ensures.into_iter_gives.0 c.requires.fits.1 c.in_ok-first.ensures.on,
  λ fs copies old. first_added g.F.BranchWork.kit g.F.BranchWork.may c.in_ok-first.first _ _ _ fs copies c.in_ok-first.ensures.ready c.in_ok-first.ensures.work c.in_ok-push.ensures.items old,
  split_first c.args.mergers c.args.count c.in_ok-first.first _ _ _ _ _ _ c.in_ok-push.ensures.items c.in_ok-first.ensures.first,
)

pub replica_at-requires-in-loop-replica-clause-inside : goal.replica_at-requires-in-loop-replica-clause-inside
replica_at-requires-in-loop-replica-clause-inside g c = (comes_next g.F.BranchWork.kit g.F.BranchWork.may _ c.in-Some.replica _ _ _ _ _ _ _ c.loop-replica.invariant.2 c.in-Some.ensures.steps.0).inside

pub replica_at-requires-in-loop-replica-clause-fits : goal.replica_at-requires-in-loop-replica-clause-fits
replica_at-requires-in-loop-replica-clause-fits g c =
    let n = comes_next g.F.BranchWork.kit g.F.BranchWork.may _ c.in-Some.replica _ _ _ _ _ _ _ c.loop-replica.invariant.2 c.in-Some.ensures.steps.0 in
    (n.versions, _, n.fits)

pub loop-replica-preserved : goal.loop-replica-preserved
loop-replica-preserved g c =
    let n = comes_next g.F.BranchWork.kit g.F.BranchWork.may _ c.in-Some.replica _ _ _ _ _ _ _ c.loop-replica.invariant.2 c.in-Some.ensures.steps.0 in (
      tt,
      tt,
      n.on _ _ c.in_ok-other.ensures.on,
      λ fs copies old. replica_added g.F.BranchWork.kit g.F.BranchWork.may c.in_ok-other.other _ _ _ copies c.in_ok-other.ensures.ready c.in_ok-push-2.ensures.items (c.loop-replica.invariant.3 fs copies old),
      split_more _ c.args.mergers c.loop-replica.merger c.args.count c.in_ok-other.other _ _ _ _ _ _ c.in_ok-push-2.ensures.items c.in_ok-other.ensures.first c.loop-replica.invariant.4,
    )

pub returns-clause-nodes : goal.returns-clause-nodes
returns-clause-nodes g c = c.loop-replica.invariant.3

pub returns-clause-joined : goal.returns-clause-joined
returns-clause-joined g c =
    split_done g.F.BranchWork.kit g.F.BranchWork.may _ _ _ _ _ _ _ _ _ _ c.loop-replica.invariant.2 (none_left _ _ c.in-None.ensures.steps.0 (sym c.loop-replica.replica-iterator.rest.ok.0)) c.loop-replica.invariant.4
