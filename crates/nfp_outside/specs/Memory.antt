-- For proofs: what the desks in memory show: the bytes of each slot, the step, and the calls.
use Rattle.std.specs.Prelude.{◌≡◌, ◌≢◌, ◌↔◌, ℕ, List, drop, length, min, Contains, Option, Some, None, Result, IsErrOf}
use Rattle.std.specs.Option.{option_map}
use Rattle.std.specs.String.{string_bytes}
use Rattle.nfp_outside.specs.declared.slot.Slot.{Slot}
use Rattle.nfp_outside.specs.declared.slot.DeskFault.{DeskFault}
use Rattle.nfp_outside.specs.declared.slot.DeskFault.TheVariants.{Failed}
use Rattle.nfp_outside.specs.declared.held.Source.{Source}
use Rattle.nfp_outside.specs.declared.held.Sink.{Sink}
use Rattle.nfp_outside.specs.declared.call_counts.CallCounts.{CallCounts}
use Rattle.nfp_outside.specs.declared.fixed.FixedDesk.{FixedDesk}
use Rattle.nfp_outside.specs.declared.memory.MemDesk.{MemDesk}
use Rattle.nfp_outside.specs.Outside.{SlotView, one_more, CountsFailure}
use Rattle.nfp_outside.specs.Slots.{at_slot}

-- the number of bytes that a read moves: as many as it can, up to the step
abbrev pub moved : ℕ → List ℕ → ℕ → ℕ
moved step left room = min (min (length left) room) step

-- the bytes that remain to be read
abbrev pub left_in : Source → List ℕ
left_in s = drop s.taken s.bytes.items

-- a read slot in memory shows the bytes that remain, and never fails
abbrev pub source_view : Source → SlotView
source_view s = record { name = option_map string_bytes s.name; bytes = Some (left_in s); weight = None; faults = 0 }

-- a write slot in memory shows the bytes that were put, and never fails
abbrev pub sink_view : Sink → SlotView
sink_view s = record { name = option_map string_bytes s.name; bytes = Some s.bytes.items; weight = None; faults = 0 }

-- the name that a slot was given by `attach`
abbrev pub name_in : FixedDesk → Slot → Option (List ℕ)
name_in d s = option_map string_bytes (at_slot d.policy.name d.capture.name d.out.name d.report.name d.note.name d.graph.name s)

-- the bytes that remain in a read slot, or were put into a write slot
abbrev pub contents : FixedDesk → Slot → List ℕ
contents d = at_slot (left_in d.policy) (left_in d.capture) d.out.bytes.items d.report.bytes.items d.note.bytes.items (left_in d.graph)

-- the most bytes that a call of the desk moves
abbrev pub step_of : FixedDesk → ℕ
step_of d = d.step

-- the desk that never fails shows its names and its bytes, and no fault in any slot
abbrev pub fixed_slots : FixedDesk → Slot → SlotView
fixed_slots d s = record { name = name_in d s; bytes = Some (contents d s); weight = None; faults = 0 }

-- the calls on a slot of the desk that fails on listed calls
abbrev pub call_counts : MemDesk → Slot → CallCounts
call_counts d = at_slot d.policy d.capture d.out d.report d.note d.graph

-- the number of calls so far on a slot; this is the number of its next call
abbrev pub calls_of : MemDesk → Slot → ℕ
calls_of d s = (call_counts d s).calls

-- the calls that have to fail
abbrev pub listed : MemDesk → List (Slot × ℕ)
listed d = d.fails.items

-- the bytes that remain in a read slot, or were put into a write slot
abbrev pub mem_contents : MemDesk → Slot → List ℕ
mem_contents d = contents d.held

-- the most bytes that a call of the desk moves
abbrev pub mem_step : MemDesk → ℕ
mem_step d = step_of d.held

-- the desk that fails on listed calls shows its names, its bytes and its counts
abbrev pub mem_slots : MemDesk → Slot → SlotView
mem_slots d s = record { name = name_in d.held s; bytes = Some (mem_contents d s); weight = None; faults = (call_counts d s).faults }

-- A call on a slot counts for that slot alone. It failed exactly when its number was listed, and only
-- then did the count of faults rise.
pub record Called {T : Type 0} (slot : Slot) (old new : MemDesk) (result : Result T DeskFault) : Type 0 where
  pub failed : IsErrOf result Failed ↔ Contains (listed old) (slot, calls_of old slot)
  pub one_call : calls_of new slot ≡ one_more (calls_of old slot)
  pub other_calls : (s : Slot) → s ≢ slot → calls_of new s ≡ calls_of old s
  pub faults : CountsFailure (mem_slots old slot).faults (mem_slots new slot).faults result
  pub same_list : listed new ≡ listed old
  pub same_step : mem_step new ≡ mem_step old
