-- For proofs: how a whole capture runs through a service, if the desk shows it and if it doesn't.
use Rattle.std.specs.Prelude.{◌≡◌, ◌≤◌, ℕ, List, length, count_by, Option, IfSome}
use Rattle.nfp_outside.specs.declared.slot.Slot.{Slot}
use Rattle.nfp_outside.specs.declared.slot.Slot.TheVariants.{Out, Report}
use Rattle.nfp_outside.specs.Outside.{SlotView}
use Rattle.capture_bytes.specs.declared.packet.Unit.{Unit as TimeUnit}
use Rattle.chain_walk.specs.declared.walk.Fate.{Fate}
use Rattle.capture_report.specs.ChainService.{Chains}
use Rattle.capture_report.specs.BurstWalk.{fates_of}
use Rattle.capture_run.specs.Passing.{Passes, out_next, lines_next}
use Rattle.capture_report.specs.Report.{is_gone, report_of}
use Rattle.capture_items.specs.Slots.{IsLater, Puts, PutsPrefixes, IsBroken}
use Rattle.capture_items.specs.Sources.{IsOpeningFault}
use Rattle.capture_items.specs.Streams.{Stream, records_in}
use Rattle.capture_run.specs.Streams.{emitted_among}
use Rattle.capture_report.specs.declared.ended.Ended.{Ended}
use Rattle.capture_items.specs.declared.fault.FormatFault.{FormatFault}
use Rattle.capture_items.specs.declared.fault.RunFault.{RunFault}
use Rattle.capture_items.specs.declared.given.Given.{Given}
use Rattle.capture_run.specs.declared.passage.Passage.{Passage}

-- Out and Report keep their names, and no count fell.
pub record Goes (old new : Slot → SlotView) : Type 0 where
  pub out_name : (new Out).name ≡ (old Out).name
  pub report_name : (new Report).name ≡ (old Report).name
  pub later : IsLater old new

-- the counts are those of the packets' fates, and the fault is the due one
pub record Counts (due : Option FormatFault) (fates : List Fate) (ended : Ended) : Type 0 where
  pub read : ended.totals.records ≡ length fates
  pub dropped : ended.totals.dropped ≡ count_by is_gone fates
  pub fault : ended.fault ≡ due

-- All that a capture gives passed, and it ended as it does.
pub record PassesStream {W X B : Type 0} (spelled : W → Given X B → List ℕ) (before after : Passage W) (fault : Option FormatFault) (old new : Slot → SlotView) (stream : Stream X B) : Type 0 where
  pub passes : Passes spelled stream.given before after old new
  pub fault_is : fault ≡ stream.fault

-- All that a capture gives ran, if it is known, and what is due was put.
pub record RunsAll {W X B : Type 0} (spelled : W → Given X B → List ℕ) (p : Passage W) (stream : Option (Stream X B)) (old new : Slot → SlotView) (run : Passage W × Option FormatFault) : Type 0 where
  pub goes : Goes old new
  pub within : run.0.totals.dropped ≤ run.0.totals.records
  pub kind : IfSome run.1 (λ fault. ¬ IsOpeningFault fault)
  pub passed : IfSome stream (PassesStream spelled p run.0 run.1 old new)

-- The run was broken off, and a prefix was put.
pub record RunBreaks {W X B : Type 0} (spelled : W → Given X B → List ℕ) (p : Passage W) (stream : Option (Stream X B)) (old new : Slot → SlotView) (fault : RunFault) : Type 0 where
  pub goes : Goes old new
  pub cause : IsBroken old new fault
  pub prefixes : IfSome stream (λ s. PutsPrefixes (out_next spelled p s.given) (lines_next p (records_in s.given)) old new)

-- where the packets that go through these chains end
abbrev pub fates_given : {X B : Type 0} → Chains → TimeUnit → Stream X B → List Fate
fates_given chains unit stream = fates_of chains unit (records_in stream.given)

-- what is written for it
abbrev pub PutsStream : {X B : Type 0} → (Given X B → List ℕ) → Chains → TimeUnit → (Slot → SlotView) → (Slot → SlotView) → Stream X B → Type 0
PutsStream spelled chains unit old new stream =
    Puts (emitted_among spelled stream.given (fates_given chains unit stream)) (report_of chains unit (records_in stream.given) stream.fault) old new

abbrev pub PutsStreamPrefixes : {X B : Type 0} → (Given X B → List ℕ) → Chains → TimeUnit → (Slot → SlotView) → (Slot → SlotView) → Stream X B → Type 0
PutsStreamPrefixes spelled chains unit old new stream =
    PutsPrefixes (emitted_among spelled stream.given (fates_given chains unit stream)) (report_of chains unit (records_in stream.given) stream.fault) old new

-- A known capture went through the chains: what passed is in Out, and its report in Report.
pub record WritesAll {X B : Type 0} (spelled : Given X B → List ℕ) (chains : Chains) (unit : TimeUnit) (stream : Option (Stream X B)) (old new : Slot → SlotView) (ended : Ended) : Type 0 where
  pub goes : Goes old new
  pub within : ended.totals.dropped ≤ ended.totals.records
  pub kind : IfSome ended.fault (λ fault. ¬ IsOpeningFault fault)
  pub counts : IfSome stream (λ s. Counts s.fault (fates_given chains unit s) ended)
  pub puts : IfSome stream (PutsStream spelled chains unit old new)

-- It was broken off, and a prefix of each was put.
pub record WriteBreaks {X B : Type 0} (spelled : Given X B → List ℕ) (chains : Chains) (unit : TimeUnit) (stream : Option (Stream X B)) (old new : Slot → SlotView) (fault : RunFault) : Type 0 where
  pub goes : Goes old new
  pub cause : IsBroken old new fault
  pub prefixes : IfSome stream (PutsStreamPrefixes spelled chains unit old new)
