-- For proofs: what a run puts into Out and Report, step by step.
use Rattle.std.specs.Prelude.{◌≡◌, ◌≤◌, ℕ, List, [], ◌++◌}
use Rattle.nfp_outside.specs.declared.slot.Slot.{Slot}
use Rattle.nfp_outside.specs.declared.slot.Slot.TheVariants.{Policy, Capture, Out, Report, Note, Graph}
use Rattle.nfp_outside.specs.declared.slot.OutsideFault.{OutsideFault}
use Rattle.nfp_outside.specs.declared.slot.OutsideFault.TheVariants as outside
use Rattle.nfp_outside.specs.Outside.{SlotView, IsRisen, Appends, AppendsPrefix}
use Rattle.capture_items.specs.declared.fault.RunFault.{RunFault}
use Rattle.capture_items.specs.declared.fault.RunFault.TheVariants as faults

-- No count fell for the slots that a run of a capture touches.
pub record IsLater (old new : Slot → SlotView) : Type 0 where
  pub capture : (old Capture).faults ≤ (new Capture).faults
  pub out : (old Out).faults ≤ (new Out).faults
  pub report : (old Report).faults ≤ (new Report).faults

-- These bytes are appended after those of Out and Report.
pub record Puts (out report : List ℕ) (old new : Slot → SlotView) : Type 0 where
  pub in_out : Appends out (old Out) (new Out)
  pub in_report : Appends report (old Report) (new Report)
  pub later : IsLater old new

-- A prefix of each is put.
pub record PutsPrefixes (out report : List ℕ) (old new : Slot → SlotView) : Type 0 where
  pub in_out : AppendsPrefix out (old Out) (new Out)
  pub in_report : AppendsPrefix report (old Report) (new Report)
  pub later : IsLater old new

-- Why a run was broken off: the count of the named slot rose, or it ran out of memory.
abbrev pub IsBroken : (Slot → SlotView) → (Slot → SlotView) → RunFault → Type 0
IsBroken old new faults.ReadFault = IsRisen (old Capture).faults (new Capture).faults
IsBroken old new (faults.WriteFault Out) = IsRisen (old Out).faults (new Out).faults
IsBroken old new (faults.WriteFault Report) = IsRisen (old Report).faults (new Report).faults
IsBroken old new (faults.WriteFault Policy) = ⊥
IsBroken old new (faults.WriteFault Capture) = ⊥
IsBroken old new (faults.WriteFault Note) = ⊥
IsBroken old new (faults.WriteFault Graph) = ⊥
IsBroken old new faults.OutOfMemory = Unit {0}

-- Putting was broken off, and what was put is a prefix.
pub record Breaks (out report : List ℕ) (old new : Slot → SlotView) (fault : RunFault) : Type 0 where
  pub prefixes : PutsPrefixes out report old new
  pub cause : IsBroken old new fault

-- A text was put through a buffer: this part of what was held and of the text is in Report, and the buffer holds the
-- rest.
pub record Gathers (text held held' : List ℕ) (old new : Slot → SlotView) : Type 0 where
  pub put : List ℕ
  pub puts : Puts [] put old new
  pub parts : put ++ held' ≡ held ++ text

-- the answer to a refused write of a slot
abbrev pub fault_seen : Slot → OutsideFault → RunFault
fault_seen slot (outside.WriteFault s) = faults.WriteFault slot
fault_seen slot (outside.ReadFault s) = faults.OutOfMemory
fault_seen slot outside.TooLong = faults.OutOfMemory
fault_seen slot outside.OutOfMemory = faults.OutOfMemory
