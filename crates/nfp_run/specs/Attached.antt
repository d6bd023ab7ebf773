-- For proofs: which of Out and Report are attached when the run of a capture ended, and why one isn't.
use Rattle.std.specs.Prelude.{IsSome, Result, Ok, Err}
use Rattle.nfp_outside.specs.declared.slot.Slot.{Slot}
use Rattle.nfp_outside.specs.declared.slot.Slot.TheVariants as slots
use Rattle.nfp_outside.specs.Outside.{SlotView}
use Rattle.capture_run.specs.CaptureReportProofs.{Ended}
use Rattle.capture_items.specs.declared.fault.RunFault.{RunFault}
use Rattle.capture_items.specs.declared.fault.RunFault.TheVariants.{WriteFault}
use Rattle.nfp_run.specs.Answers.{BothAttached}

-- Out is attached before Report, and both before the run; only a fault of Report says that Out is
abbrev pub RunLeavesAttached : Result Ended RunFault → (Slot → SlotView) → Type 0
RunLeavesAttached (Ok ended) new = BothAttached new
RunLeavesAttached (Err (WriteFault slots.Report)) new = IsSome (new slots.Out).name
RunLeavesAttached (Err fault) new = Unit {0}
