-- Which of Out and Report are attached when a run ended, by its outcome.
use Rattle.std.proofs.Common.{◌≡◌, refl, sym, subst}
use Rattle.std.specs.Prelude.{Bool, true, false, IfErr, IfOk, IfSome, Option, Some, None, Result, Ok, Err}
use Rattle.nfp_outside.specs.declared.slot.Slot.{Slot}
use Rattle.nfp_outside.specs.declared.slot.Slot.TheVariants as slots
use Rattle.nfp_outside.specs.Outside.{SlotView}
use Rattle.pcap_io.specs.declared.capture.CaptureFault.{CaptureFault}
use Rattle.pcap_io.specs.declared.capture.CaptureFault.TheVariants.{BadMagic, BadVersion, BadLink, CutHead, CutRecord, FrameTooLong, TooManyRecords}
use Rattle.pcapng_io.specs.Blocks.{is_of_first_block}
use Rattle.capture_run.specs.CaptureReportProofs.{Ended}
use Rattle.capture_items.specs.declared.totals.Totals.{Totals}
use Rattle.capture_items.specs.declared.fault.FormatFault.{FormatFault}
use Rattle.capture_items.specs.declared.fault.FormatFault.TheVariants as formats
use Rattle.capture_items.specs.Slots.{IsBroken}
use Rattle.capture_items.specs.Sources.{IsOpeningFault}
use Rattle.capture_items.specs.declared.fault.RunFault.{RunFault}
use Rattle.capture_items.specs.declared.fault.RunFault.TheVariants as faults
use Rattle.call_ending.specs.declared.outcome.Outcome.{Outcome}
use Rattle.call_ending.specs.declared.outcome.Outcome.TheVariants.{Done, Usage, Policy, Graph, Capture, CaptureNg, ReadFault, WriteFault, OutOfMemory}
use Rattle.nfp_run.specs.Answers.{AttachedUnless, BothAttached, FaultAttaches, NoneAttached, RunAttaches}
use Rattle.nfp_run.specs.Attached.{RunLeavesAttached}
use Rattle.nfp_run.specs.Closing.{closed, ending_of}
use Rattle.call_ending.specs.Endings.{outcome_seen}
use Rattle.call_ending.specs.Reading.{RefusedOpening}

-- a fault after the head, or after the first block
behind_head : (fault : CaptureFault) (new : Slot → SlotView) → ¬ IsOpeningFault (formats.Pcap fault) → BothAttached new → FaultAttaches fault new
behind_head BadMagic new behind both = absurd (behind tt)
behind_head BadVersion new behind both = absurd (behind tt)
behind_head (BadLink link) new behind both = absurd (behind tt)
behind_head CutHead new behind both = absurd (behind tt)
behind_head (CutRecord number) new behind both = both
behind_head (FrameTooLong number length) new behind both = both
behind_head TooManyRecords new behind both = both

behind_first : (first : Bool) (new : Slot → SlotView) → ¬ (first ≡ true) → BothAttached new → AttachedUnless first new
behind_first true new behind both = absurd (behind refl)
behind_first false new behind both = both

ended_attaches : (totals : Totals) (fault : Option FormatFault) (new : Slot → SlotView) → IfSome fault (λ f. ¬ IsOpeningFault f) → BothAttached new →
    RunAttaches (outcome_seen (closed totals fault)) new
ended_attaches totals None new behind both = both
ended_attaches totals (Some (formats.Pcap fault)) new behind both = behind_head fault new behind both
ended_attaches totals (Some (formats.Ng fault)) new behind both = behind_first (is_of_first_block fault) new behind both

-- a capture that was opened ran, whole or not
pub run_attaches : (r : Result Ended RunFault) (old new : Slot → SlotView) → IfOk r (λ ended. IfSome ended.fault (λ f. ¬ IsOpeningFault f)) → IfErr r (IsBroken old new) → RunLeavesAttached r new →
    RunAttaches (outcome_seen (ending_of r)) new
run_attaches (Ok ended) old new behind broken both = ended_attaches ended.totals ended.fault new behind both
run_attaches (Err faults.ReadFault) old new behind broken left = tt
run_attaches (Err (faults.WriteFault slots.Policy)) old new behind broken left = tt
run_attaches (Err (faults.WriteFault slots.Capture)) old new behind broken left = tt
run_attaches (Err (faults.WriteFault slots.Out)) old new behind broken left = tt
run_attaches (Err (faults.WriteFault slots.Report)) old new behind broken left = left
run_attaches (Err (faults.WriteFault slots.Note)) old new behind broken left = absurd broken
run_attaches (Err (faults.WriteFault slots.Graph)) old new behind broken left = absurd broken
run_attaches (Err faults.OutOfMemory) old new behind broken left = tt

head_refused : (fault : CaptureFault) (new : Slot → SlotView) → IsOpeningFault (formats.Pcap fault) → NoneAttached new → FaultAttaches fault new
head_refused BadMagic new head none = none
head_refused BadVersion new head none = none
head_refused (BadLink link) new head none = none
head_refused CutHead new head none = none
head_refused (CutRecord number) new head none = absurd head
head_refused (FrameTooLong number length) new head none = absurd head
head_refused TooManyRecords new head none = absurd head

-- a capture wasn't opened
pub refused_attaches : (outcome : Outcome) (before after : SlotView) (new : Slot → SlotView) → RefusedOpening before after outcome → NoneAttached new → RunAttaches outcome new
refused_attaches Done before after new refused none = absurd refused
refused_attaches (Usage fault) before after new refused none = absurd refused
refused_attaches (Policy fault) before after new refused none = absurd refused
refused_attaches (Graph fault) before after new refused none = absurd refused
refused_attaches (Capture fault) before after new refused none = head_refused fault new refused.0 none
refused_attaches (CaptureNg fault) before after new refused none = subst (λ first. AttachedUnless first new) (sym refused.0) none
refused_attaches (ReadFault slots.Policy) before after new refused none = none
refused_attaches (ReadFault slots.Capture) before after new refused none = tt
refused_attaches (ReadFault slots.Out) before after new refused none = tt
refused_attaches (ReadFault slots.Report) before after new refused none = tt
refused_attaches (ReadFault slots.Note) before after new refused none = tt
refused_attaches (ReadFault slots.Graph) before after new refused none = none
refused_attaches (WriteFault slot) before after new refused none = absurd refused
refused_attaches OutOfMemory before after new refused none = tt
