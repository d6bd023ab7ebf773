-- What is left in Report if a capture was led through the chains after Report was attached, or if it wasn't.
use Rattle.std.proofs.Common.{◌≡◌, ◌∙◌, inl, inr, ℕ, List, sym}
use Rattle.std.specs.Prelude.{Option, Some, None, IfErr, IfOk, IfSome, IsErrAnd, Result, Ok, Err}
use Rattle.std.specs.Option.{option_map}
use Rattle.nfp_outside.specs.declared.slot.Slot.{Slot}
use Rattle.nfp_outside.specs.declared.slot.Slot.TheVariants as slots
use Rattle.nfp_outside.specs.Outside.{Attaches, KeepsSlot, SlotView}
use Rattle.capture_bytes.specs.declared.packet.Unit.{Unit as TimeUnit}
use Rattle.capture_items.specs.Streams.{Stream, records_in}
use Rattle.capture_items.specs.declared.fault.RunFault.{RunFault}
use Rattle.plain_chains.specs.Plain.{chains_of}
use Rattle.plain_chains.specs.declared.chain.PlainChain.{PlainChain}
use Rattle.why_run.specs.Running.{ReportBreaks, Reports, ReportsAll, report_given}
use Rattle.why_run.specs.declared.run.WhyEnded.{WhyEnded}
use Rattle.why_call.specs.Reporting.{Left, Packets, Tells, packets_of}
use Rattle.why_call.proofs.Counted.{ways_count}
use Rattle.why_call.proofs.HeldBytes.{holds_all, holds_prefix, untouched}

for_each : (o : Option Packets) (P : Packets → Type 0) → ((p : Packets) → P p) → IfSome o P
for_each None P f = tt
for_each (Some p) P f = f p

-- Report couldn't be attached
pub unattached : (chains : List PlainChain) (asked : Option ℕ) (left : Option Packets) (old new : SlotView) (r : Result WhyEnded RunFault) (e : RunFault) → IsErrAnd r (λ f. f ≡ e) →
    old.name ≡ None → KeepsSlot old new →
    IfSome left (Left chains asked old new r)
unattached chains asked left old new (Ok ended) e is free keeps = absurd is
unattached chains asked left old new (Err f) e is free keeps = for_each left (Left chains asked old new (Err f)) (λ p. inl (untouched old new free keeps))

tells_so : {X B : Type 0} (chains : List PlainChain) (unit : TimeUnit) (asked : Option ℕ) (s : Stream X B) (old new : Slot → SlotView) (ended : WhyEnded) →
    Reports chains unit asked old new ended s → Tells chains asked (packets_of unit s) ended
tells_so chains unit asked s old new ended reports = record {
  read = reports.read ∙ sym (ways_count (chains_of chains) unit (records_in s.given));
  dropped = reports.dropped;
  same_fault = reports.fault;
  trace = reports.trace;
}

-- a capture was led through the chains, and what is left of it was unchanged until then
pub led_by : {X B : Type 0} (chains : List PlainChain) (unit : TimeUnit) (asked : Option ℕ) (name : List ℕ) (stream : Option (Stream X B)) (old mid new : Slot →
    SlotView) (r : Result WhyEnded RunFault) → Attaches slots.Report name (old slots.Report) (mid slots.Report) →
    IfOk r (ReportsAll chains unit asked stream mid new) → IfErr r (ReportBreaks chains unit asked stream mid new) →
    IfSome (option_map (packets_of unit) stream) (Left chains asked (old slots.Report) (new slots.Report) r)
led_by chains unit asked name None old mid new r attached whole broken = tt
led_by chains unit asked name (Some s) old mid new (Ok ended) attached whole broken =
    (holds_all name (report_given chains unit s) (old slots.Report) (mid slots.Report) (new slots.Report) attached whole.whole.puts.in_report, tells_so chains unit asked s mid new ended whole.whole)
led_by chains unit asked name (Some s) old mid new (Err e) attached whole broken =
    inr (holds_prefix name (report_given chains unit s) (old slots.Report) (mid slots.Report) (new slots.Report) attached broken.prefixes.in_report)
