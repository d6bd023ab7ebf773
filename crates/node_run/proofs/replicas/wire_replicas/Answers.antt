use Rattle.std.proofs.Common.{◌∙◌, ◌++◌, ◌∷◌, [], ap, refl, true}
use Rattle.node_run.proofs.Wiring.{fanned_one, parted_many}
use Rattle.node_run.proofs.Replicating.{replicas_added, replicas_fit}
use Rattle.node_run.proofs.Edging.{split_joined}
use Rattle.node_run.proofs.replicas.wire_replicas.Goals as goal

pub version_fan-requires-clause-some : goal.version_fan-requires-clause-some
version_fan-requires-clause-some g c = c.requires.branch.some

pub version_fan-requires-clause-few : goal.version_fan-requires-clause-few
version_fan-requires-clause-few g c = c.requires.branch.few

pub version_fan-requires-clause-many : goal.version_fan-requires-clause-many
version_fan-requires-clause-many g c = c.requires.branch.many

pub push_replicas-requires-clause-some : goal.push_replicas-requires-clause-some
push_replicas-requires-clause-some g c = c.requires.branch.some

pub push_replicas-requires-clause-few_mergers : goal.push_replicas-requires-clause-few_mergers
push_replicas-requires-clause-few_mergers g c = c.requires.branch.few_mergers

pub push_replicas-requires-clause-few : goal.push_replicas-requires-clause-few
push_replicas-requires-clause-few g c = c.requires.branch.few

pub push_replicas-requires-clause-fits : goal.push_replicas-requires-clause-fits
push_replicas-requires-clause-fits g c = (
  _,
  replicas_fit g.F.BranchWork.kit g.F.BranchWork.may c.args.work c.args.mergers c.args.count _ _ _ _ c.requires.replicas
      (parted_many c.args.touch c.args.count g.D.LinkDue.due _ refl c.requires.branch.many) c.requires.branch.take c.in_ok-versions.ensures.1 c.requires.branch.ends,
)

pub returns : goal.returns
returns g c = record {
  versions = fanned_one c.args.mergers _ _ _ _ c.requires.branch.some c.in_ok-versions.ensures.0 c.in_ok-push.ensures;
  split = true;
  fan = c.in_ok-push.ensures ∙ ap (λ y. c.args.wired.now.versions ++ y ∷ []) c.in_ok-versions.ensures.0;
  joined = split_joined g.F.BranchWork.kit c.args.mergers g.D.LinkDue.due c.args.touch c.args.work c.args.count _ _ _ _ c.requires.branch.some c.requires.branch.many c.in_ok-versions.ensures.1 c.requires.branch.ends c.in_ok-push_replicas.ensures.joined;
  nodes = replicas_added g.F.BranchWork.kit g.F.BranchWork.may _ _ _ _ c.requires.replicas.nothing c.in_ok-push_replicas.ensures.nodes;
}
