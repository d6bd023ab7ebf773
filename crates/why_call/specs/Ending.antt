-- For proofs: how the call ends if a capture was led through the chains, or that was broken off.
use Rattle.std.specs.Prelude.{◌≡◌, ◌⊎◌, ℕ, List, Option, Some, None, Result, Ok, Err}
use Rattle.nfp_outside.specs.declared.slot.Slot.TheVariants as slots
use Rattle.capture_items.specs.declared.fault.FormatFault.{FormatFault}
use Rattle.capture_items.specs.declared.fault.RunFault.{RunFault}
use Rattle.capture_items.specs.declared.fault.RunFault.TheVariants as faults
use Rattle.capture_items.specs.declared.totals.Totals.{Totals}
use Rattle.call_ending.specs.Results.{outcome_of}
use Rattle.call_ending.specs.declared.ending.Ending.{Ending}
use Rattle.call_ending.specs.declared.ending.Ending.TheVariants.{Completed, Shown, Stopped}
use Rattle.call_ending.specs.declared.outcome.Outcome.{Outcome}
use Rattle.call_ending.specs.declared.outcome.Outcome.TheVariants.{OutOfMemory, ReadFault, WriteFault}
use Rattle.trace_text.specs.Trace.{missing_line}
use Rattle.why_run.specs.declared.run.WhyEnded.{WhyEnded}
use Rattle.why_call.specs.declared.ending.WhyEnding.{WhyEnding}
use Rattle.why_call.specs.declared.ending.WhyEnding.TheVariants.{Ended, Traced}

-- that the capture has no such record is shown, or it ran out of memory
abbrev pub IsMissing : ℕ → Ending → Type 0
IsMissing number ending = (ending ≡ Shown (missing_line number)) ⊎ (ending ≡ Stopped OutOfMemory)

abbrev pub MissingEnds : ℕ → WhyEnding → Type 0
MissingEnds number (Traced outcome line) = ⊥
MissingEnds number (Ended ending) = IsMissing number ending

-- no record was traced
abbrev pub UntracedEnds : Totals → Option ℕ → Option FormatFault → WhyEnding → Type 0
UntracedEnds totals asked (Some fault) ending = ending ≡ Ended (Stopped (outcome_of (Some fault)))
UntracedEnds totals (Some number) None ending = MissingEnds number ending
UntracedEnds totals None None ending = ending ≡ Ended (Completed totals)

-- this is the trace of the record that was asked for, if the capture has it
abbrev pub TracedEnds : Totals → Option ℕ → Option FormatFault → Option (List ℕ) → WhyEnding → Type 0
TracedEnds totals asked fault (Some trace) ending = ending ≡ Traced (outcome_of fault) trace
TracedEnds totals asked fault None ending = UntracedEnds totals asked fault ending

-- the outcome of a run that was broken off; only Report was written
abbrev pub broken : RunFault → Outcome
broken faults.ReadFault = ReadFault slots.Capture
broken (faults.WriteFault slots.Report) = WriteFault slots.Report
broken (faults.WriteFault slot) = OutOfMemory
broken faults.OutOfMemory = OutOfMemory

abbrev pub IsEndingOf : Option ℕ → Result WhyEnded RunFault → WhyEnding → Type 0
IsEndingOf asked (Ok ended) ending = TracedEnds ended.totals asked ended.fault ended.trace ending
IsEndingOf asked (Err fault) ending = ending ≡ Ended (Stopped (broken fault))
