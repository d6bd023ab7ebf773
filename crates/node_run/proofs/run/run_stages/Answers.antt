use Rattle.std.proofs.Common.{ap, map}
use Rattle.stage_nodes.specs.Streams.{through, dealer_copies}
use Rattle.node_run.specs.Runs.{HasRun}
use Rattle.node_run.specs.Stages.{plain_stage}
use Rattle.node_run.proofs.Running.{may_run, first_due, first_laid, first_passes, led_by, ok_so}
use Rattle.node_run.proofs.run.run_stages.Goals as goal

pub wire_stage-requires-clause-pass : goal.wire_stage-requires-clause-pass
wire_stage-requires-clause-pass g c = first_passes g.F.BranchWork.kit g.F.BranchWork.may _ _ (plain_stage c.take_first-work.result) g.D.LinkDue.due c.requires.pass (ap (map plain_stage) c.take_first-work.ensures)

pub wire_all-requires-clause-lays : goal.wire_all-requires-clause-lays
wire_all-requires-clause-lays g c = (_, _, _, first_laid g.F.BranchWork.kit g.F.BranchWork.may g.S.Supply.comes c.args.mergers c.args.count _ _ (plain_stage c.take_first-work.result) g.D.LinkDue.due _ c.in_ok-wired.wired c.requires.some c.requires.many c.requires.pass (ap (map plain_stage) c.take_first-work.ensures) c.in_ok-wired.ensures.wired)

pub run_laid-requires-clause-run : goal.run_laid-requires-clause-run
run_laid-requires-clause-run g c κs within =
    let laid = c.in_ok-behind.ensures _ _ _ (first_laid g.F.BranchWork.kit g.F.BranchWork.may g.S.Supply.comes c.args.mergers c.args.count _ _ (plain_stage c.take_first-work.result) g.D.LinkDue.due _ c.in_ok-wired.wired c.requires.some c.requires.many c.requires.pass (ap (map plain_stage) c.take_first-work.ensures) c.in_ok-wired.ensures.wired) in (
      _,
      _,
      may_run g.F.BranchWork.kit g.F.BranchWork.may g.S.Supply.comes c.args.count _ _ _ _ _ _ _
          (first_due g.F.BranchWork.kit g.F.BranchWork.may g.S.Supply.comes c.args.mergers c.args.count (plain_stage c.take_first-work.result) g.D.LinkDue.due _ c.in_ok-wired.wired c.in_ok-wired.ensures.wired)
          laid,
    )

pub returns : goal.returns
returns g c =
    let row = ap (map plain_stage) c.take_first-work.ensures in
    let laid = c.in_ok-behind.ensures _ _ _ (first_laid g.F.BranchWork.kit g.F.BranchWork.may g.S.Supply.comes c.args.mergers c.args.count _ _ (plain_stage c.take_first-work.result) g.D.LinkDue.due _ c.in_ok-wired.wired c.requires.some c.requires.many c.requires.pass row c.in_ok-wired.ensures.wired) in
    let made = dealer_copies (plain_stage c.take_first-work.result).parts.touches g.D.LinkDue.due in
    let runs = may_run g.F.BranchWork.kit g.F.BranchWork.may g.S.Supply.comes c.args.count _ _ made _ _ _ _
    (first_due g.F.BranchWork.kit g.F.BranchWork.may g.S.Supply.comes c.args.mergers c.args.count (plain_stage c.take_first-work.result) g.D.LinkDue.due _ c.in_ok-wired.wired c.in_ok-wired.ensures.wired)
    laid in
    ok_so (λ ran. HasRun g.F.BranchWork.kit made _ (through g.F.BranchWork.kit (map plain_stage c.args.stages.items) g.D.LinkDue.due) ran.0.items ran.1.items ran.2) _ c.run_laid.result
    (c.run_laid.ensures made _ runs) (λ ran r. led_by g.F.BranchWork.kit g.F.BranchWork.may c.args.count _ _ (plain_stage c.take_first-work.result) g.D.LinkDue.due _ _ ran.0.items ran.1.items ran.2 row laid r)
