use Rattle.std.proofs.Common.{◌≡◌, sym, subst}
use Rattle.std.specs.Prelude.{IfErr, IsErrAnd, Result, Ok, Err}
use Rattle.std.proofs.lemmas.Result.{IfErr-weaker, IfOk-weaker}
use Rattle.nfp_outside.specs.declared.slot.Slot.TheVariants.{Capture}
use Rattle.pcap_io.specs.Reader.{body_left}
use Rattle.capture_run.specs.ChainServiceProofs.{chains_of}
use Rattle.capture_items.specs.Formats.{pcap_left, pcap_spelled}
use Rattle.capture_run.specs.Running.{WriteBreaks, WritesAll}
use Rattle.capture_items.specs.declared.fault.RunFault.{RunFault}
use Rattle.nfp_run.proofs.Formats.{at_head, pcap_partly, pcap_whole}
use Rattle.nfp_run.proofs.OtherSlots.{capture_is_not_out}
use Rattle.nfp_run.proofs.run.run_pcap.Goals as goal

handed_on : {T : Type 0} (r : Result T RunFault) (x : RunFault) (P : RunFault → Type 0) → IsErrAnd r (λ e. e ≡ x) → P x → IfErr r P
handed_on (Ok y) x P h p = tt
handed_on (Err e) x P h p = subst P (sym h) p

pub returns-in_err-writer-clause-err : goal.returns-in_err-writer-clause-err
returns-in_err-writer-clause-err g c = handed_on c.from_residual.result c.in_err-writer.field-0.0 _ c.from_residual.ensures.1
    (at_head (chains_of c.args.service.chains) c.args.head.now (body_left c.args.reader (g.D.Desk.slots c.args.desk.now Capture)) (g.D.Desk.slots c.args.desk.now) (g.D.Desk.slots c.put_head.new.desk) _ c.in_err-writer.ensures.err)

pub returns-clause-ok : goal.returns-clause-ok
returns-clause-ok g c = IfOk-weaker c.run_capture.result _ _
    (λ ended w. pcap_whole (chains_of c.args.service.chains) c.args.head.now c.in_ok-writer.writer (body_left c.args.reader (g.D.Desk.slots c.args.desk.now Capture)) (g.D.Desk.slots c.args.desk.now) (g.D.Desk.slots c.put_head.new.desk) (g.D.Desk.slots c.run_capture.new.desk) ended
    c.in_ok-writer.ensures.order c.in_ok-writer.ensures.ok
    (subst (λ v. WritesAll (pcap_spelled c.in_ok-writer.writer) (chains_of c.args.service.chains) c.args.head.now.unit (pcap_left c.args.reader v) (g.D.Desk.slots c.put_head.new.desk) (g.D.Desk.slots c.run_capture.new.desk) ended) (c.put_head.ensures.others Capture capture_is_not_out) w))
    c.run_capture.ensures.ok

pub returns-clause-err : goal.returns-clause-err
returns-clause-err g c = IfErr-weaker c.run_capture.result _ _
    (λ e w. pcap_partly (chains_of c.args.service.chains) c.args.head.now c.in_ok-writer.writer (body_left c.args.reader (g.D.Desk.slots c.args.desk.now Capture)) (g.D.Desk.slots c.args.desk.now) (g.D.Desk.slots c.put_head.new.desk) (g.D.Desk.slots c.run_capture.new.desk) e
    c.in_ok-writer.ensures.order c.in_ok-writer.ensures.ok
    (subst (λ v. WriteBreaks (pcap_spelled c.in_ok-writer.writer) (chains_of c.args.service.chains) c.args.head.now.unit (pcap_left c.args.reader v) (g.D.Desk.slots c.put_head.new.desk) (g.D.Desk.slots c.run_capture.new.desk) e) (c.put_head.ensures.others Capture capture_is_not_out) w))
    c.run_capture.ensures.err
