-- Believed: the outcome of a capture that was read to its end or to its fault.
use Rattle.std.specs.Prelude.{Option, Some, None}
use Rattle.capture_items.specs.declared.fault.FormatFault.{FormatFault}
use Rattle.capture_items.specs.declared.fault.FormatFault.TheVariants.{Ng, Pcap}
use Rattle.call_ending.specs.declared.outcome.Outcome.{Outcome}
use Rattle.call_ending.specs.declared.outcome.Outcome.TheVariants as outcomes

-- a capture without a fault is done
abbrev pub outcome_of : Option FormatFault → Outcome
outcome_of None = outcomes.Done
outcome_of (Some (Pcap fault)) = outcomes.Capture fault
outcome_of (Some (Ng fault)) = outcomes.CaptureNg fault
