use Rattle.std.proofs.Common.{sym, subst}
use Rattle.std.specs.Prelude.{IfSome}
use Rattle.nfp_outside.specs.declared.slot.Slot.TheVariants.{Capture, Report}
use Rattle.capture_bytes.specs.declared.packet.Unit.TheVariants.{Nano}
use Rattle.capture_items.specs.Formats.{ng_left, pcap_left}
use Rattle.call_ending.specs.declared.read.Opened.TheVariants.{Ng, Pcap}
use Rattle.why_call.specs.Reporting.{Left, packets_left}
use Rattle.why_call.proofs.LedCaptures.{led_by, unattached}
use Rattle.why_call.proofs.OtherSlots.{capture_is_not_report}
use Rattle.why_call.proofs.explain.attach_and_run.Goals as goal

pub returns-in_err-attach_sink-clause-left : goal.returns-in_err-attach_sink-clause-left
returns-in_err-attach_sink-clause-left g c = unattached c.args.service c.args.request.now.«record» _ (g.D.Desk.slots c.args.desk.now Report) (g.D.Desk.slots c.attach_sink.new.desk Report)
    c.from_residual.result c.in_err-attach_sink.field-0.0 c.from_residual.ensures.1 c.requires.free c.in_err-attach_sink.ensures.err.keeps

pub returns-in-Pcap-clause-left : goal.returns-in-Pcap-clause-left
returns-in-Pcap-clause-left g c =
    subst (λ opened. IfSome (packets_left opened (g.D.Desk.slots c.args.desk.now Capture)) (Left c.args.service c.args.request.now.«record» (g.D.Desk.slots c.args.desk.now Report) (g.D.Desk.slots c.run_why.new.desk Report) c.run_why.result)) (sym c.in-Pcap.is)
    (subst (λ slot. IfSome (packets_left (Pcap c.in-Pcap.head c.in-Pcap.reader) slot) (Left c.args.service c.args.request.now.«record» (g.D.Desk.slots c.args.desk.now Report) (g.D.Desk.slots c.run_why.new.desk Report) c.run_why.result)) (c.attach_sink.ensures.others Capture capture_is_not_report)
    (led_by c.args.service c.in-Pcap.head.unit c.args.request.now.«record» c.args.request.now.report.now (pcap_left c.in-Pcap.reader (g.D.Desk.slots c.attach_sink.new.desk Capture))
    (g.D.Desk.slots c.args.desk.now) (g.D.Desk.slots c.attach_sink.new.desk) (g.D.Desk.slots c.run_why.new.desk) c.run_why.result c.in_ok-attach_sink.ensures.ok c.run_why.ensures.ok c.run_why.ensures.err))

pub returns-in-Ng-clause-left : goal.returns-in-Ng-clause-left
returns-in-Ng-clause-left g c =
    subst (λ opened. IfSome (packets_left opened (g.D.Desk.slots c.args.desk.now Capture)) (Left c.args.service c.args.request.now.«record» (g.D.Desk.slots c.args.desk.now Report) (g.D.Desk.slots c.run_why-in-Ng.new.desk Report) c.run_why-in-Ng.result)) (sym c.in-Ng.is)
    (subst (λ slot. IfSome (packets_left (Ng c.in-Ng.source) slot) (Left c.args.service c.args.request.now.«record» (g.D.Desk.slots c.args.desk.now Report) (g.D.Desk.slots c.run_why-in-Ng.new.desk Report) c.run_why-in-Ng.result)) (c.attach_sink.ensures.others Capture capture_is_not_report)
    (led_by c.args.service Nano c.args.request.now.«record» c.args.request.now.report.now (ng_left c.in-Ng.source (g.D.Desk.slots c.attach_sink.new.desk Capture))
    (g.D.Desk.slots c.args.desk.now) (g.D.Desk.slots c.attach_sink.new.desk) (g.D.Desk.slots c.run_why-in-Ng.new.desk) c.run_why-in-Ng.result c.in_ok-attach_sink.ensures.ok c.run_why-in-Ng.ensures.ok c.run_why-in-Ng.ensures.err))
