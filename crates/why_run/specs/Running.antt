-- For proofs: how a whole capture is led through plain chains and reported, if the desk shows it and if it doesn't.
use Rattle.std.specs.Prelude.{◌≡◌, ◌≤◌, ℕ, List, [], length, map, count_by, Option, IfSome}
use Rattle.nfp_outside.specs.Outside.{SlotView}
use Rattle.nfp_outside.specs.declared.slot.Slot.{Slot}
use Rattle.nfp_outside.specs.declared.slot.Slot.TheVariants.{Report}
use Rattle.capture_bytes.specs.declared.packet.Unit.{Unit as TimeUnit}
use Rattle.capture_items.specs.Slots.{IsBroken, IsLater, Puts, PutsPrefixes}
use Rattle.capture_items.specs.Sources.{IsOpeningFault}
use Rattle.capture_items.specs.Streams.{Stream, records_in}
use Rattle.capture_items.specs.declared.fault.RunFault.{RunFault}
use Rattle.plain_chains.specs.PacketWays.{ways_of}
use Rattle.plain_chains.specs.Plain.{chains_of}
use Rattle.plain_chains.specs.declared.chain.PlainChain.{PlainChain}
use Rattle.traced_walk.specs.Ways.{Way}
use Rattle.why_report.specs.Report.{OrderedChain, in_order, is_gone, report_bytes}
use Rattle.why_run.specs.Why.{asked_trace}
use Rattle.why_run.specs.declared.run.WhyEnded.{WhyEnded}

-- the chains, each with the declarations of its functions in order
abbrev pub ordered_of : List PlainChain → List OrderedChain
ordered_of chains = map (λ c. in_order c.declared c.order) chains

-- the ways of the packets of a capture through these chains
abbrev pub ways_given : {X B : Type 0} → List PlainChain → TimeUnit → Stream X B → List Way
ways_given chains unit stream = ways_of (chains_of chains) unit (records_in stream.given)

-- their report
abbrev pub report_given : {X B : Type 0} → List PlainChain → TimeUnit → Stream X B → List ℕ
report_given chains unit stream = report_bytes (ordered_of chains) (ways_given chains unit stream) stream.fault

-- A known capture was led through the chains, and its report is in Report.
pub record Reports {X B : Type 0} (chains : List PlainChain) (unit : TimeUnit) (asked : Option ℕ) (old new : Slot → SlotView) (ended : WhyEnded) (stream : Stream X B) : Type 0 where
  pub read : ended.totals.records ≡ length (records_in stream.given)
  pub dropped : ended.totals.dropped ≡ count_by (λ way. is_gone way.fate) (ways_given chains unit stream)
  pub fault : ended.fault ≡ stream.fault
  pub trace : ended.trace ≡ asked_trace (ordered_of chains) (ways_given chains unit stream) asked
  pub puts : Puts [] (report_given chains unit stream) old new

-- Report keeps its name, and no count fell.
pub record Goes (old new : Slot → SlotView) : Type 0 where
  pub report_name : (new Report).name ≡ (old Report).name
  pub later : IsLater old new

-- A capture was led through the chains to its end, and if it is known, its report is in Report.
pub record ReportsAll {X B : Type 0} (chains : List PlainChain) (unit : TimeUnit) (asked : Option ℕ) (stream : Option (Stream X B)) (old new : Slot → SlotView) (ended : WhyEnded) : Type 0 where
  pub goes : Goes old new
  pub within : ended.totals.dropped ≤ ended.totals.records
  pub kind : IfSome ended.fault (λ fault. ¬ IsOpeningFault fault)
  pub whole : IfSome stream (Reports chains unit asked old new ended)

-- It was broken off, and a prefix of the report was put.
pub record ReportBreaks {X B : Type 0} (chains : List PlainChain) (unit : TimeUnit) (asked : Option ℕ) (stream : Option (Stream X B)) (old new : Slot → SlotView) (fault : RunFault) : Type 0 where
  pub goes : Goes old new
  pub cause : IsBroken old new fault
  pub prefixes : IfSome stream (λ s. PutsPrefixes [] (report_given chains unit s) old new)
