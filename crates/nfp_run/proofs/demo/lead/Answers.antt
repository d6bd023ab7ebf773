use Rattle.std.proofs.lemmas.Result.{IfOk-weaker}
use Rattle.capture_run.specs.ChainServiceProofs.{chains_of}
use Rattle.nfp_run.proofs.DemoRuns.{demo_put}
use Rattle.nfp_run.proofs.demo.lead.Goals as goal

pub returns-clause-puts : goal.returns-clause-puts
returns-clause-puts g c = IfOk-weaker c.run_capture.result _ _
    (λ ended all. (demo_put (chains_of c.args.service.chains) c.head-head.result c.in_ok-writer.writer c.new-records.result.records.records c.args.input
    (g.D.Desk.slots c.args.desk.now) (g.D.Desk.slots c.put_head.new.desk) (g.D.Desk.slots c.run_capture.new.desk) ended c.head-head.ensures c.new-records.ensures.records c.in_ok-writer.ensures.order c.in_ok-writer.ensures.ok all).puts)
    c.run_capture.ensures.ok

pub returns-clause-counts : goal.returns-clause-counts
returns-clause-counts g c = IfOk-weaker c.run_capture.result _ _
    (λ ended all. (demo_put (chains_of c.args.service.chains) c.head-head.result c.in_ok-writer.writer c.new-records.result.records.records c.args.input
    (g.D.Desk.slots c.args.desk.now) (g.D.Desk.slots c.put_head.new.desk) (g.D.Desk.slots c.run_capture.new.desk) ended c.head-head.ensures c.new-records.ensures.records c.in_ok-writer.ensures.order c.in_ok-writer.ensures.ok all).counts)
    c.run_capture.ensures.ok
