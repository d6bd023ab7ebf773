use Rattle.std.proofs.Common.{◌∙◌, ap, false, refl, arith, sym}
use Rattle.stage_nodes.specs.Turns.{places}
use Rattle.node_run.proofs.Shares.{some_share}
use Rattle.node_run.proofs.Wiring.{branch_added, fanned_one}
use Rattle.node_run.proofs.Edging.{alone_joined, fan_alone}
use Rattle.node_run.proofs.branches.wire_alone.Goals as goal

pub version_fan-requires-clause-few : goal.version_fan-requires-clause-few
version_fan-requires-clause-few g c = c.requires.few

pub version_fan-requires-clause-many : goal.version_fan-requires-clause-many
version_fan-requires-clause-many g c = c.requires.many

pub take_first-requires : goal.take_first-requires
take_first-requires g c = some_share _ _ c.in_ok-versions.ensures.1

pub returns : goal.returns
returns g c = record {
  versions = fanned_one 1 _ _ _ _ (omega arith) c.in_ok-versions.ensures.0 c.in_ok-push.ensures;
  split = false;
  fan = fan_alone _ _ _ _ c.in_ok-versions.ensures.0 c.in_ok-push.ensures;
  joined = alone_joined g.F.BranchWork.kit c.args.mergers g.D.LinkDue.due c.args.touch c.args.work _ _ _ _ _ c.in_ok-versions.ensures.1 c.take_first.ensures (c.new-to.ensures.ends ∙ c.requires.ends) c.in_ok-push-2.ensures.items (ap (places 0 1) (sym c.requires.many));
  nodes = λ fs copies old.
      branch_added g.F.BranchWork.kit g.F.BranchWork.may c.args.mergers c.args.count c.args.touch g.D.LinkDue.due _ _ _ _ _ fs copies
      c.requires.some c.requires.few c.requires.many c.requires.take c.in_ok-versions.ensures.1 c.take_first.ensures (c.new-to.ensures.ends ∙ c.requires.ends) refl refl refl c.new-to.ensures.ample c.in_ok-push-2.ensures.items old;
}
