-- For proofs: how a call ends, before its line is put into Note.
use Rattle.std.specs.Prelude.{◌≡◌, ◌≤◌, Option, Some, None, IfSome, Result, Ok, Err}
use Rattle.nfp_outside.specs.declared.slot.Slot.{Slot}
use Rattle.nfp_outside.specs.declared.slot.Slot.TheVariants as slots
use Rattle.nfp_outside.specs.Outside.{SlotView}
use Rattle.call_ending.specs.declared.outcome.Outcome.TheVariants.{Capture, CaptureNg}
use Rattle.call_ending.specs.declared.ending.Ending.{Ending}
use Rattle.call_ending.specs.declared.ending.Ending.TheVariants.{Completed, Stopped}
use Rattle.capture_run.specs.CaptureReportProofs.{Ended}
use Rattle.capture_items.specs.declared.totals.Totals.{Totals}
use Rattle.capture_items.specs.declared.fault.RunFault.{RunFault}
use Rattle.capture_items.specs.declared.fault.FormatFault.{FormatFault}
use Rattle.capture_items.specs.declared.fault.FormatFault.TheVariants.{Ng, Pcap}
use Rattle.capture_run.specs.Running.{Counts, Goes}
use Rattle.capture_items.specs.Slots.{IsBroken, Puts, PutsPrefixes}
use Rattle.capture_items.specs.Sources.{IsOpeningFault}
use Rattle.call_ending.specs.Broken.{broken_by}
use Rattle.call_ending.specs.Endings.{outcome_seen, text_of}
use Rattle.nfp_run.specs.Due.{Due}
use Rattle.nfp_run.specs.Written.{Led, both}
use Rattle.nfp_run.specs.Answers.{Leaves, LeavesPrefixes}

-- a capture that ended with a fault is answered with it
abbrev pub closed : Totals → Option FormatFault → Ending
closed totals None = Completed totals
closed totals (Some (Pcap fault)) = Stopped (Capture fault)
closed totals (Some (Ng fault)) = Stopped (CaptureNg fault)

-- how the work of a call that ran a capture ended
abbrev pub ending_of : Result Ended RunFault → Ending
ending_of (Ok ended) = closed ended.totals ended.fault
ending_of (Err fault) = Stopped (broken_by fault)

-- what a known capture leaves, by how the run over it ended
abbrev pub Left : Led → (Slot → SlotView) → (Slot → SlotView) → Result Ended RunFault → Type 0
Left led old new (Ok ended) = Leaves (both led.written) old new × Counts led.fault led.fates ended
Left led old new (Err fault) = LeavesPrefixes (both led.written) old new

-- A capture went through the chains after Out and Report as they were: what is due was put.
pub record LedWhole (left : Option Led) (old new : Slot → SlotView) (ended : Ended) : Type 0 where
  pub goes : Goes old new
  pub within : ended.totals.dropped ≤ ended.totals.records
  pub kind : IfSome ended.fault (λ fault. ¬ IsOpeningFault fault)
  pub counts : IfSome left (λ led. Counts led.fault led.fates ended)
  pub puts : IfSome left (λ led. Puts led.written.out led.written.report old new)

-- It was broken off, and a prefix of each was put.
pub record LedPartly (left : Option Led) (old new : Slot → SlotView) (fault : RunFault) : Type 0 where
  pub goes : Goes old new
  pub cause : IsBroken old new fault
  pub prefixes : IfSome left (λ led. PutsPrefixes led.written.out led.written.report old new)

-- An outcome that the words, the policy, the graphs and the capture determine is the due one, and so is its line.
pub record EndsDue (due : Due) (old new : Slot → SlotView) (ending : Ending) : Type 0 where
  pub answer : outcome_seen ending ≡ due.outcome
  pub left : Leaves due.written old new
  pub note : text_of ending ≡ due.note
