use Rattle.std.proofs.lemmas.Result.{IfErr-weaker, IfOk-weaker}
use Rattle.nfp_outside.specs.declared.slot.Slot.TheVariants.{Capture}
use Rattle.capture_run.specs.ChainServiceProofs.{chains_of}
use Rattle.capture_items.specs.Formats.{ng_left}
use Rattle.nfp_run.proofs.Formats.{ng_partly, ng_whole}
use Rattle.nfp_run.proofs.run.run_ng.Goals as goal

pub returns-clause-ok : goal.returns-clause-ok
returns-clause-ok g c = IfOk-weaker c.run_capture.result _ _
    (λ ended w. ng_whole (chains_of c.args.service.chains) c.growth.result (ng_left c.args.source (g.D.Desk.slots c.args.desk.now Capture)) (g.D.Desk.slots c.args.desk.now) (g.D.Desk.slots c.run_capture.new.desk) ended c.growth.ensures w)
    c.run_capture.ensures.ok

pub returns-clause-err : goal.returns-clause-err
returns-clause-err g c = IfErr-weaker c.run_capture.result _ _
    (λ e w. ng_partly (chains_of c.args.service.chains) c.growth.result (ng_left c.args.source (g.D.Desk.slots c.args.desk.now Capture)) (g.D.Desk.slots c.args.desk.now) (g.D.Desk.slots c.run_capture.new.desk) e c.growth.ensures w)
    c.run_capture.ensures.err
