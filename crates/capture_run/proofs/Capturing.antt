-- A whole capture is written: the report's first line, the records, and what follows the lines.
use Rattle.std.proofs.Common.{◌≡◌, ◌∙◌, ℕ, List, [], length, subst, arith}
use Rattle.std.specs.Prelude.{count_by, Option}
use Rattle.nfp_outside.specs.declared.slot.Slot.{Slot}
use Rattle.nfp_outside.specs.Outside.{SlotView}
use Rattle.capture_bytes.specs.declared.packet.Unit.{Unit as TimeUnit}
use Rattle.capture_report.specs.ChainServiceProofs.{IsOpening, Service, chains_of}
use Rattle.capture_report.specs.ChainService.{Chains}
use Rattle.capture_report.specs.BurstWalk.{all_classed, fates_of}
use Rattle.capture_report.specs.Report.{copies_due, is_gone, summary, title}
use Rattle.capture_run.specs.Running.{Goes, PassesStream, RunBreaks, RunsAll, WriteBreaks, WritesAll, fates_given}
use Rattle.capture_items.specs.Slots.{Breaks, Puts}
use Rattle.capture_report.specs.Telling.{told_text}
use Rattle.capture_report.specs.declared.ended.Ended.{Ended}
use Rattle.capture_items.specs.declared.fault.FormatFault.{FormatFault}
use Rattle.capture_items.specs.Streams.{Stream, records_in}
use Rattle.capture_run.specs.Streams.{emitted_among}
use Rattle.capture_items.specs.declared.fault.RunFault.{RunFault}
use Rattle.capture_items.specs.declared.given.Given.{Given}
use Rattle.capture_run.specs.declared.passage.Passage.{Passage}
use Rattle.capture_items.specs.Putting.{earlier_cause, later_more}
use Rattle.capture_run.proofs.Running.{broken_goes, for_each, goes_by, if_some}
use Rattle.capture_run.proofs.Telling.{summary_told}
use Rattle.capture_run.proofs.Walking.{length-fates_of}
use Rattle.capture_run.proofs.Whole.{all_put, records_refused, summary_due, text_refused, title_refused}

goes_more : (old mid new : Slot → SlotView) → Goes old mid → Goes mid new → Goes old new
goes_more old mid new a b = record { out_name = b.out_name ∙ a.out_name; report_name = b.report_name ∙ a.report_name; later = later_more old mid new a.later b.later }

-- a passage before its first packet
abbrev pub started : {W : Type 0} → Service → TimeUnit → W → Passage W
started service unit sink = record { service = service; unit = unit; writer = sink; totals = record { records = 0; dropped = 0 } }

-- how a run ended
abbrev pub ended_so : {W : Type 0} → Passage W × Option FormatFault → Ended
ended_so run = record { totals = run.0.totals; fault = run.1 }

-- what is reported after the lines is what is due
told_due : {W X B : Type 0} (spelled : W → Given X B → List ℕ) (service : Service) (unit : TimeUnit) (sink : W) (run : Passage W × Option FormatFault) (old new : Slot → SlotView) (b : Stream X B) →
    IsOpening service →
    PassesStream spelled (started service unit sink) run.0 run.1 old new b → told_text run.0.service.chains (ended_so run) ≡ summary_due (chains_of service.chains) unit (records_in b.given) b.fault
told_due spelled service unit sink run old new b opening passed =
    let went = passed.passes.advances in
    let chains = chains_of service.chains in
    let ended = fates_of chains unit (records_in b.given) in
    let packets = all_classed chains.declared unit (records_in b.given) in
    let read : run.0.totals.records ≡ length ended = let e = length-fates_of chains unit (records_in b.given) in let r = went.read in omega arith in
    let dropped : run.0.totals.dropped ≡ count_by is_gone ended = let r = went.dropped in omega arith in
    summary_told packets service.chains run.0.service.chains (ended_so run) went.led opening.chains
    ∙ (λ i. summary (went.chains i) (read i) (dropped i) (copies_due chains.pieces packets) (passed.fault_is i))

pub breaks_at_title : {X B : Type 0} (spelled : Given X B → List ℕ) (chains : Chains) (unit : TimeUnit) (stream : Option (Stream X B)) (old new : Slot → SlotView) (e : RunFault) →
    Breaks [] title old new e → WriteBreaks spelled chains unit stream old new e
breaks_at_title spelled chains unit stream old new e refused = record {
  goes = broken_goes _ _ old new e refused;
  cause = refused.cause;
  prefixes = for_each stream _ (λ b. (title_refused (emitted_among spelled b.given (fates_given chains unit b)) chains unit (records_in b.given) b.fault old new e refused).prefixes);
}

pub breaks_at_records : {W X B : Type 0} (spelled : W → Given X B → List ℕ) (service : Service) (unit : TimeUnit) (sink : W) (stream : Option (Stream X B)) (old mid new : Slot →
    SlotView) (e : RunFault) →
    Puts [] title old mid → RunBreaks spelled (started service unit sink) stream mid new e → WriteBreaks (spelled sink) (chains_of service.chains) unit stream old new e
breaks_at_records spelled service unit sink stream old mid new e first broken = record {
  goes = goes_more old mid new (goes_by _ _ old mid first) broken.goes;
  cause = earlier_cause old mid new e first.later broken.cause;
  prefixes = if_some stream _ _ (λ b x. (records_refused _ (chains_of service.chains) unit (records_in b.given) b.fault old mid new e first (record {
    prefixes = x;
    cause =
        broken.cause;
  })).prefixes) broken.prefixes;
}

pub breaks_at_summary : {W X B : Type 0} (spelled : W → Given X B →
    List ℕ) (service : Service) (unit : TimeUnit) (sink : W) (run : Passage W × Option FormatFault) (stream : Option (Stream X B)) (old mid now new : Slot → SlotView) (e : RunFault) →
    IsOpening service →
    Puts [] title old mid → RunsAll spelled (started service unit sink) stream mid now run → Breaks [] (told_text run.0.service.chains (ended_so run)) now new e →
    WriteBreaks (spelled sink) (chains_of service.chains) unit stream old new e
breaks_at_summary spelled service unit sink run stream old mid now new e opening first ran refused = record {
  goes = goes_more old mid new (goes_by _ _ old mid first) (goes_more mid now new ran.goes (broken_goes _ _ now new e refused));
  cause = earlier_cause old now new e (later_more old mid now first.later ran.goes.later) refused.cause;
  prefixes = if_some stream _ _ (λ b passed. (text_refused _ (chains_of service.chains) unit (records_in b.given) b.fault old mid now new e first passed.passes.puts
      (subst (λ t. Breaks [] t now new e) (told_due spelled service unit sink run mid now b opening passed) refused)).prefixes) ran.passed;
}

pub writes_all : {W X B : Type 0} (spelled : W → Given X B →
    List ℕ) (service : Service) (unit : TimeUnit) (sink : W) (run : Passage W × Option FormatFault) (stream : Option (Stream X B)) (old mid now new : Slot → SlotView) → IsOpening service →
    Puts [] title old mid → RunsAll spelled (started service unit sink) stream mid now run → Puts [] (told_text run.0.service.chains (ended_so run)) now new →
    WritesAll (spelled sink) (chains_of service.chains) unit stream old new (ended_so run)
writes_all spelled service unit sink run stream old mid now new opening first ran last = record {
  goes = goes_more old mid new (goes_by _ _ old mid first) (goes_more mid now new ran.goes (goes_by _ _ now new last));
  within = ran.within;
  kind = ran.kind;
  counts = if_some stream _ _ (λ b passed. record {
    read = let e = length-fates_of (chains_of service.chains) unit (records_in b.given) in let r = passed.passes.advances.read in omega arith;
    dropped = let r = passed.passes.advances.dropped in omega arith;
    fault = passed.fault_is;
  }) ran.passed;
  puts = if_some stream _ _ (λ b passed. all_put _ (chains_of service.chains) unit (records_in b.given) b.fault old mid now new first passed.passes.puts
      (subst (λ t. Puts [] t now new) (told_due spelled service unit sink run mid now b opening passed) last)) ran.passed;
}
