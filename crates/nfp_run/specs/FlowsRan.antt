-- For proofs: how a call that exports the flows of a capture ends.
use Rattle.std.specs.Prelude.{◌≡◌, ℕ, List, length, Option, Some, None, Result, Ok, Err}
use Rattle.nfp_outside.specs.declared.slot.Slot.{Slot}
use Rattle.nfp_outside.specs.declared.slot.Slot.TheVariants as slots
use Rattle.nfp_outside.specs.Outside.{SlotView, IsRisen}
use Rattle.capture_bytes.specs.declared.packet.Unit.{Unit as TimeUnit}
use Rattle.pcap_io.specs.Capture.{Body, IsHeadFault}
use Rattle.pcap_io.specs.declared.capture.CaptureFault.{CaptureFault}
use Rattle.capture_items.specs.declared.fault.RunFault.{RunFault}
use Rattle.capture_items.specs.declared.fault.RunFault.TheVariants as faults
use Rattle.flow_line.specs.declared.line.FlowLine.{FlowLine}
use Rattle.flow_run.specs.FlowsOut.{flow_lines}
use Rattle.nfp_run.specs.Answers.{Leaves, LeavesPrefixes}
use Rattle.nfp_run.specs.Due.{due_of_body}
use Rattle.nfp_run.specs.Notes.{flows_text}
use Rattle.call_ending.specs.declared.ending.Ending.{Ending}
use Rattle.call_ending.specs.declared.ending.Ending.TheVariants.{Completed, Shown, Refused, GraphRefused, Stopped}
use Rattle.call_ending.specs.declared.outcome.Outcome.TheVariants.{Capture, ReadFault, WriteFault, OutOfMemory}

-- how a call that has exported these lines of this number of records ends, by the fault of the capture
abbrev pub flows_ending : ℕ → List FlowLine → Option CaptureFault → Ending
flows_ending records lines None = Shown (flows_text records lines)
flows_ending records lines (Some fault) = Stopped (Capture fault)

-- the work was done as it is due, or broken off with a prefix of the export in Out
abbrev pub FlowsEnd : TimeUnit → Body → (Slot → SlotView) → (Slot → SlotView) → Result Ending RunFault → Type 0
FlowsEnd unit body old new (Ok ending) = Leaves (due_of_body unit body).written old new × (ending ≡ flows_ending (length body.records) (flow_lines unit body.records) body.fault)
FlowsEnd unit body old new (Err fault) = LeavesPrefixes (due_of_body unit body).written old new

-- why it was broken off: a count rose of the slots that it uses, or it ran out of memory
abbrev pub FlowsBroken : (Slot → SlotView) → (Slot → SlotView) → RunFault → Type 0
FlowsBroken old new faults.ReadFault = IsRisen (old slots.Capture).faults (new slots.Capture).faults
FlowsBroken old new (faults.WriteFault slots.Out) = IsRisen (old slots.Out).faults (new slots.Out).faults
FlowsBroken old new (faults.WriteFault slot) = ⊥
FlowsBroken old new faults.OutOfMemory = Unit {0}

-- it ends with its line or with a fault after the head, also if the desk doesn't show the capture
abbrev pub FlowsEndTold : Ending → Type 0
FlowsEndTold (Shown text) = Unit {0}
FlowsEndTold (Stopped (Capture fault)) = ¬ IsHeadFault fault
FlowsEndTold (Stopped outcome) = ⊥
FlowsEndTold (Completed totals) = ⊥
FlowsEndTold (Refused refusal) = ⊥
FlowsEndTold (GraphRefused refusal) = ⊥
