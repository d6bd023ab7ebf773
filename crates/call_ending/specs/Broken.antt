-- For proofs: the outcome of a run that was broken off.
use Rattle.nfp_outside.specs.declared.slot.Slot.TheVariants.{Capture}
use Rattle.capture_items.specs.declared.fault.RunFault.{RunFault}
use Rattle.capture_items.specs.declared.fault.RunFault.TheVariants as faults
use Rattle.call_ending.specs.declared.outcome.Outcome.{Outcome}
use Rattle.call_ending.specs.declared.outcome.Outcome.TheVariants.{ReadFault, WriteFault, OutOfMemory}

abbrev pub broken_by : RunFault → Outcome
broken_by faults.ReadFault = ReadFault Capture
broken_by (faults.WriteFault slot) = WriteFault slot
broken_by faults.OutOfMemory = OutOfMemory
