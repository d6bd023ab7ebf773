use Rattle.std.proofs.Common.{◌∙◌, ◌++◌, ◌∷◌, [], ap, refl}
use Rattle.stage_nodes.specs.Turns.{places}
use Rattle.node_run.proofs.Replicating.{inlets_some, left_same, replica_ready, replicas_on}
use Rattle.node_run.proofs.replicas.replica_at.Goals as goal

pub take_first-inlet-requires : goal.take_first-inlet-requires
take_first-inlet-requires g c = let f = c.requires.fits in (inlets_some g.F.BranchWork.kit g.F.BranchWork.may _ _ _ f.1 _ f.0 _ _ f.2).0

pub take_first-requires : goal.take_first-requires
take_first-requires g c = let f = c.requires.fits in (inlets_some g.F.BranchWork.kit g.F.BranchWork.may _ _ _ f.1 _ f.0 _ _ f.2).1

pub returns-clause-ready : goal.returns-clause-ready
returns-clause-ready g c =
    let f = c.requires.fits in
    replica_ready g.F.BranchWork.kit g.F.BranchWork.may c.args.mergers c.args.merger f.1 c.args.count f.0 _ _ _ _ _ _ f.2 c.requires.some c.requires.few_mergers c.requires.inside c.requires.few
    c.take_first-inlet.ensures c.take_first.ensures (c.new-to.ensures.ends ∙ c.in_ok-push.ensures ∙ ap (λ y. y ++ c.take_first.result ∷ []) c.new-outlets.ensures) refl refl c.share_count.ensures.share c.share_count.ensures.few c.new-to.ensures.ample

pub returns-clause-work : goal.returns-clause-work
returns-clause-work g c = left_same g.F.BranchWork.kit c.args.work c.requires.fits.2.nothing _

pub returns-clause-on : goal.returns-clause-on
returns-clause-on g c versions n fits = replicas_on g.F.BranchWork.kit g.F.BranchWork.may _ _ _ n _ versions _ _ _ _ _ _ fits c.take_first-inlet.ensures c.take_first.ensures

pub returns-clause-first : goal.returns-clause-first
returns-clause-first g c = record {
  own = ap (places c.args.merger c.args.mergers) c.share_count.ensures.share;
  takes = c.take_first-inlet.ensures;
  end = c.take_first.result;
  first = c.take_first.ensures;
  gives = c.new-to.ensures.ends ∙ c.in_ok-push.ensures ∙ ap (λ y. y ++ c.take_first.result ∷ []) c.new-outlets.ensures;
}
