use Rattle.std.proofs.Common.{◌∙◌, ap, refl}
use Rattle.stage_nodes.specs.declared.giving.ToStage.{ToStage}
use Rattle.node_run.specs.Stages.{plain_stage}
use Rattle.node_run.proofs.Wiring.{is_wired, mergers_fit, wired_by}
use Rattle.node_run.proofs.Meets.{may_meet, meets_by}
use Rattle.node_run.proofs.Edging.{on_edges}
use Rattle.node_run.proofs.wire.wire_stage.Goals as goal

pub meet-requires : goal.meet-requires
meet-requires g c =
    may_meet g.F.BranchWork.kit g.F.BranchWork.may (plain_stage c.args.work) _ _ c.args.mergers c.args.count g.D.LinkDue.due
    c.requires.pass c.as_slice-touches.ensures c.as_slice.ensures.value c.requires.some c.requires.few c.requires.many

pub wire_branches-requires-clause-ends : goal.wire_branches-requires-clause-ends
wire_branches-requires-clause-ends g c = (meets_by g.F.BranchWork.kit _ _ _ _ c.args.mergers g.D.LinkDue.due _ c.in_ok-ends.ensures refl c.as_slice.ensures.value).ends

pub wire_mergers-requires-clause-fits : goal.wire_mergers-requires-clause-fits
wire_mergers-requires-clause-fits g c =
    mergers_fit g.F.BranchWork.kit g.F.BranchWork.may c.args.mergers c.args.count (plain_stage c.args.work) g.D.LinkDue.due _ _ _
    c.requires.pass c.requires.many c.in_ok-bases.ensures.1 c.in_ok-from_mergers.ensures.0
    (meets_by g.F.BranchWork.kit _ _ _ _ c.args.mergers g.D.LinkDue.due _ c.in_ok-ends.ensures c.as_slice-touches.ensures c.as_slice.ensures.value).inlets

pub returns-clause-wired : goal.returns-clause-wired
returns-clause-wired g c =
    let b = wired_by g.F.BranchWork.kit g.F.BranchWork.may _ _ _ _ _ c.in_ok-wired.wired c.in_ok-wired.ensures c.as_slice-touches.ensures in
    is_wired g.F.BranchWork.kit g.F.BranchWork.may g.S.Supply.comes c.args.mergers c.args.count (plain_stage c.args.work) g.D.LinkDue.due _ c.in_ok-wired.wired _
    c.requires.pass c.requires.some c.requires.many c.requires.takes b refl refl c.new-to.ensures.ample c.new.ensures refl (ap (λ (e : ToStage). e.versions) c.new-to.ensures.ends)
    (ap (λ (e : ToStage). e.bases) c.new-to.ensures.ends ∙ c.in_ok-bases.ensures.0)
    c.in_ok-from_mergers.ensures.1 (λ gs e a. c.in_ok-wire_mergers.ensures.nodes gs e (c.in_ok-nodes.ensures.nodes gs e a))

pub returns-clause-edges : goal.returns-clause-edges
returns-clause-edges g c =
    let b = wired_by g.F.BranchWork.kit g.F.BranchWork.may _ _ _ _ _ c.in_ok-wired.wired c.in_ok-wired.ensures c.as_slice-touches.ensures in
    on_edges g.F.BranchWork.kit g.F.BranchWork.may c.args.mergers c.args.count (plain_stage c.args.work) g.D.LinkDue.due c.in_ok-wired.wired _ _ _ _ _
    c.requires.some c.requires.many b (ap (λ (e : ToStage). e.versions) c.new-to.ensures.ends) (ap (λ (e : ToStage). e.bases) c.new-to.ensures.ends ∙ c.in_ok-bases.ensures.0) c.in_ok-from_mergers.ensures.1
    c.in_ok-nodes.ensures.order c.in_ok-wire_mergers.ensures.joined
    c.in_ok-bases.ensures.1 (meets_by g.F.BranchWork.kit _ _ _ _ c.args.mergers g.D.LinkDue.due _ c.in_ok-ends.ensures c.as_slice-touches.ensures c.as_slice.ensures.value).inlets c.in_ok-from_mergers.ensures.0
