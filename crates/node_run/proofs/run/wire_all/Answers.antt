use Rattle.std.proofs.Common.{sym, ap, map, subst}
use Rattle.node_run.specs.Stages.{plain_stage}
use Rattle.node_run.specs.Runs.{AreLaid}
use Rattle.node_run.proofs.Wiring.{none_left}
use Rattle.node_run.proofs.Running.{laid_next, pushed_more, all_laid}
use Rattle.node_run.proofs.run.wire_all.Goals as goal

pub loop-work-init : goal.loop-work-init
loop-work-init g c =
    let e = ap (map plain_stage) c.into_iter-work-iterator.ensures.into_iter_gives.0 in
    let r = c.requires.lays in (
      tt,
      tt,
      (r.0, r.1, r.2, subst (λ todo. AreLaid g.F.BranchWork.kit g.F.BranchWork.may c.args.count r.0 r.1 r.2 todo c.args.source c.args.nodes.now.items) (sym e) r.3),
      λ packets functions copies h. subst (λ todo. AreLaid g.F.BranchWork.kit g.F.BranchWork.may c.args.count packets functions copies todo c.args.source c.args.nodes.now.items) (sym e) h,
    )

pub wire_stage-requires-clause-takes : goal.wire_stage-requires-clause-takes
wire_stage-requires-clause-takes g c =
    (laid_next g.F.BranchWork.kit g.F.BranchWork.may _ _ _ _ _ _ (plain_stage c.in-Some.work) _ _ c.loop-work.invariant.2.3 (ap (map plain_stage) c.in-Some.ensures.steps.0)).takes

pub wire_stage-requires-clause-many : goal.wire_stage-requires-clause-many
wire_stage-requires-clause-many g c =
    (laid_next g.F.BranchWork.kit g.F.BranchWork.may _ _ _ _ _ _ (plain_stage c.in-Some.work) _ _ c.loop-work.invariant.2.3 (ap (map plain_stage) c.in-Some.ensures.steps.0)).many

pub wire_stage-requires-clause-pass : goal.wire_stage-requires-clause-pass
wire_stage-requires-clause-pass g c =
    (laid_next g.F.BranchWork.kit g.F.BranchWork.may _ _ _ _ _ _ (plain_stage c.in-Some.work) _ _ c.loop-work.invariant.2.3 (ap (map plain_stage) c.in-Some.ensures.steps.0)).pass

pub loop-work-preserved : goal.loop-work-preserved
loop-work-preserved g c =
    let i = c.loop-work.invariant in
    let w = c.in_ok-wired in
    let p = c.in_ok-source.ensures in
    let row = ap (map plain_stage) c.in-Some.ensures.steps.0 in (
      tt,
      tt,
      (i.2.0, i.2.1, i.2.2, pushed_more g.F.BranchWork.kit g.F.BranchWork.may c.args.mergers c.args.count i.2.0 i.2.1 i.2.2 _ _ (plain_stage c.in-Some.work) _ w.wired _ _ _ c.requires.some i.2.3 row w.ensures.wired p.next p.nodes),
      λ packets functions copies h. pushed_more g.F.BranchWork.kit g.F.BranchWork.may c.args.mergers c.args.count packets functions copies _ _ (plain_stage c.in-Some.work) _ w.wired _ _ _ c.requires.some (i.3 packets functions copies h) row w.ensures.wired p.next p.nodes,
    )

pub returns : goal.returns
returns g c packets functions copies h =
    all_laid g.F.BranchWork.kit g.F.BranchWork.may _ _ _ _ _ _ _ (c.loop-work.invariant.3 packets functions copies h)
    (ap (map plain_stage) (none_left _ _ c.in-None.ensures.steps.0 (sym c.loop-work.work-iterator.rest.ok.0)))
