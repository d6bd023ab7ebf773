use Rattle.std.proofs.Common.{◌∙◌, ap, sym, subst}
use Rattle.std.specs.Prelude.{IfSome}
use Rattle.nfp_outside.specs.declared.slot.Slot.TheVariants.{Capture, Out, Report}
use Rattle.capture_run.specs.ChainServiceProofs.{chains_of}
use Rattle.nfp_run.specs.Closing.{Left}
use Rattle.nfp_run.specs.Reading.{opened_led}
use Rattle.nfp_run.proofs.OtherSlots.{out_is_not_report, report_is_not_out, capture_is_not_out, capture_is_not_report}
use Rattle.call_ending.specs.declared.read.Opened.TheVariants.{Pcap, Ng}
use Rattle.nfp_run.proofs.WrittenSlots.{behind_run, left_by_run, out_unattached, report_unattached}
use Rattle.nfp_run.proofs.run.attach_and_run.Goals as goal

pub returns-in-Pcap-clause-left : goal.returns-in-Pcap-clause-left
returns-in-Pcap-clause-left g c =
    subst (λ opened. IfSome (opened_led (chains_of c.args.service.chains) opened (g.D.Desk.slots c.args.desk.now Capture)) (λ led. Left led (g.D.Desk.slots c.args.desk.now) (g.D.Desk.slots c.run_pcap.new.desk) c.run_pcap.result)) (sym c.in-Pcap.is)
    (left_by_run c.args.names.now.out.now c.args.names.now.report.now _ _
    (g.D.Desk.slots c.args.desk.now) (g.D.Desk.slots c.attach_sink.new.desk) (g.D.Desk.slots c.attach_sink-2.new.desk) (g.D.Desk.slots c.run_pcap.new.desk) c.run_pcap.result
    (record {
      at_out = c.in_ok-attach_sink.ensures.ok;
      still_report = c.attach_sink.ensures.others Report report_is_not_out;
      at_report = c.in_ok-attach_sink-2.ensures.ok;
      still_out = c.attach_sink-2.ensures.others Out out_is_not_report;
    })
    (ap (opened_led (chains_of c.args.service.chains) (Pcap c.in-Pcap.head c.in-Pcap.reader)) (c.attach_sink-2.ensures.others Capture capture_is_not_report ∙ c.attach_sink.ensures.others Capture capture_is_not_out))
    c.run_pcap.ensures.ok c.run_pcap.ensures.err)

pub returns-in-Ng-clause-left : goal.returns-in-Ng-clause-left
returns-in-Ng-clause-left g c =
    subst (λ opened. IfSome (opened_led (chains_of c.args.service.chains) opened (g.D.Desk.slots c.args.desk.now Capture)) (λ led. Left led (g.D.Desk.slots c.args.desk.now) (g.D.Desk.slots c.run_ng.new.desk) c.run_ng.result)) (sym c.in-Ng.is)
    (left_by_run c.args.names.now.out.now c.args.names.now.report.now _ _
    (g.D.Desk.slots c.args.desk.now) (g.D.Desk.slots c.attach_sink.new.desk) (g.D.Desk.slots c.attach_sink-2.new.desk) (g.D.Desk.slots c.run_ng.new.desk) c.run_ng.result
    (record {
      at_out = c.in_ok-attach_sink.ensures.ok;
      still_report = c.attach_sink.ensures.others Report report_is_not_out;
      at_report = c.in_ok-attach_sink-2.ensures.ok;
      still_out = c.attach_sink-2.ensures.others Out out_is_not_report;
    })
    (ap (opened_led (chains_of c.args.service.chains) (Ng c.in-Ng.source)) (c.attach_sink-2.ensures.others Capture capture_is_not_report ∙ c.attach_sink.ensures.others Capture capture_is_not_out))
    c.run_ng.ensures.ok c.run_ng.ensures.err)

pub returns-in_err-attach_sink-clause-left : goal.returns-in_err-attach_sink-clause-left
returns-in_err-attach_sink-clause-left g c =
    out_unattached _ (g.D.Desk.slots c.args.desk.now) (g.D.Desk.slots c.attach_sink.new.desk) c.from_residual.result c.in_err-attach_sink.field-0.0 c.from_residual.ensures.1
    c.requires.out_free c.requires.report_free c.in_err-attach_sink.ensures.err.keeps (c.attach_sink.ensures.others Report report_is_not_out)

pub returns-in_err-attach_sink-2-clause-left : goal.returns-in_err-attach_sink-2-clause-left
returns-in_err-attach_sink-2-clause-left g c =
    report_unattached c.args.names.now.out.now _ (g.D.Desk.slots c.args.desk.now) (g.D.Desk.slots c.attach_sink.new.desk) (g.D.Desk.slots c.attach_sink-2.new.desk)
    c.from_residual-in_err-attach_sink-2.result c.in_err-attach_sink-2.field-0.0 c.from_residual-in_err-attach_sink-2.ensures.1 c.requires.report_free c.in_ok-attach_sink.ensures.ok (c.attach_sink.ensures.others Report report_is_not_out)
    c.in_err-attach_sink-2.ensures.err.keeps (c.attach_sink-2.ensures.others Out out_is_not_report)

pub returns-in-Pcap-clause-report_behind : goal.returns-in-Pcap-clause-report_behind
returns-in-Pcap-clause-report_behind g c = behind_run c.args.names.now.out.now _ (g.D.Desk.slots c.args.desk.now) (g.D.Desk.slots c.attach_sink.new.desk) (g.D.Desk.slots c.attach_sink-2.new.desk) (g.D.Desk.slots c.run_pcap.new.desk) c.run_pcap.result
    c.in_ok-attach_sink.ensures.ok (c.attach_sink-2.ensures.others Out out_is_not_report) c.run_pcap.ensures.ok c.run_pcap.ensures.err

pub returns-in-Ng-clause-report_behind : goal.returns-in-Ng-clause-report_behind
returns-in-Ng-clause-report_behind g c = behind_run c.args.names.now.out.now _ (g.D.Desk.slots c.args.desk.now) (g.D.Desk.slots c.attach_sink.new.desk) (g.D.Desk.slots c.attach_sink-2.new.desk) (g.D.Desk.slots c.run_ng.new.desk) c.run_ng.result
    c.in_ok-attach_sink.ensures.ok (c.attach_sink-2.ensures.others Out out_is_not_report) c.run_ng.ensures.ok c.run_ng.ensures.err
