-- Believed: what is left in a slot, which outcomes are final, and what has no fault before a slot is written.
use Rattle.std.specs.Prelude.{◌≡◌, ◌⊎◌, ℕ, List, ◌++◌, Option, Some, None, IfSome, IsSome, IsOk, Bool, true, false, Result, Ok, Err}
use Rattle.std.specs.Option.{option_map}
use Rattle.nfp_outside.specs.declared.slot.Slot.{Slot}
use Rattle.nfp_outside.specs.declared.slot.Slot.TheVariants as slots
use Rattle.nfp_outside.specs.Outside.{SlotView, IsRisen}
use Rattle.pcap_io.specs.Capture.{capture_of}
use Rattle.pcapng_io.specs.Blocks.{next_of, start}
use Rattle.policy_judge.specs.declared.fault.PolicyFault.{PolicyFault}
use Rattle.policy_judge.specs.declared.fault.Refusal.{Refusal}
use Rattle.policy_judge.specs.declared.judged.Judged.{Judged}
use Rattle.policy_judge.specs.Judging.{judged}
use Rattle.call_ending.specs.declared.outcome.Outcome.{Outcome}
use Rattle.call_ending.specs.declared.outcome.Outcome.TheVariants.{Done, Usage, Policy, Graph, Capture, CaptureNg, ReadFault, WriteFault, OutOfMemory}
use Rattle.call_ending.specs.Notes.{read_fault_text, write_fault_text}
use Rattle.call_ending.specs.Told.{is_ng}

-- A slot that was never attached: it has no name, and its bytes are those before.
pub record IsUntouched (old new : SlotView) : Type 0 where
  pub no_name : new.name ≡ None
  pub same_bytes : new.bytes ≡ old.bytes

-- An attached slot that holds these bytes, if the desk shows them.
pub record Holds (bytes : List ℕ) (old new : SlotView) : Type 0 where
  pub attached : IsSome new.name
  pub content : new.bytes ≡ option_map (λ _. bytes) old.bytes

-- An attached slot that holds a prefix of these bytes.
pub record HoldsPrefix (bytes : List ℕ) (old new : SlotView) : Type 0 where
  pub done : List ℕ
  pub rest : List ℕ
  pub parts : bytes ≡ done ++ rest
  pub holds : Holds done old new

-- A slot holds all that is due, or was never attached if nothing is due.
abbrev pub LeavesSlot : Option (List ℕ) → SlotView → SlotView → Type 0
LeavesSlot None old new = IsUntouched old new
LeavesSlot (Some bytes) old new = Holds bytes old new

-- A slot holds a prefix of what is due, or was never attached.
abbrev pub LeavesPrefix : Option (List ℕ) → SlotView → SlotView → Type 0
LeavesPrefix None old new = IsUntouched old new
LeavesPrefix (Some bytes) old new = IsUntouched old new ⊎ HoldsPrefix bytes old new

-- an outcome that the words, the policy, the graphs and the capture alone determine
abbrev pub IsFinal : Outcome → Type 0
IsFinal Done = Unit {0}
IsFinal (Usage fault) = Unit {0}
IsFinal (Policy fault) = Unit {0}
IsFinal (Graph fault) = Unit {0}
IsFinal (Capture fault) = Unit {0}
IsFinal (CaptureNg fault) = Unit {0}
IsFinal (ReadFault slot) = ⊥
IsFinal (WriteFault slot) = ⊥
IsFinal OutOfMemory = ⊥

-- no count of a slot rose
abbrev pub NoneRose : (Slot → SlotView) → (Slot → SlotView) → Type 0
NoneRose old new = (s : Slot) → ¬ IsRisen (old s).faults (new s).faults

-- the line that is put into Note: that of a fault of reading or writing, or the one that is due
abbrev pub note_due : Outcome → List ℕ → List ℕ
note_due (ReadFault slot) note = read_fault_text slot
note_due (WriteFault slots.Out) note = write_fault_text slots.Out
note_due (WriteFault slots.Report) note = write_fault_text slots.Report
note_due (WriteFault slot) note = note
note_due outcome note = note

-- the policy has no fault, if the desk shows it
abbrev pub HasPolicy : (Slot → SlotView) → Type 0
HasPolicy old = IfSome (old slots.Policy).bytes (λ bytes. IsOk (judged bytes))

-- the head of a classic capture has no fault, or the first block of a pcapng capture
abbrev pub HasNoOpeningFault : Bool → List ℕ → Type 0
HasNoOpeningFault false bytes = IsOk (capture_of bytes)
HasNoOpeningFault true bytes = IsOk (next_of start bytes)

-- the same for the capture, if the desk shows it
abbrev pub HasHead : (Slot → SlotView) → Type 0
HasHead old = IfSome (old slots.Capture).bytes (λ bytes. HasNoOpeningFault (is_ng bytes) bytes)

-- a refusal of a policy reports this fault
abbrev pub IsFaultOf : PolicyFault → Result Judged Refusal → Type 0
IsFaultOf fault (Ok policy) = ⊥
IsFaultOf fault (Err refusal) = refusal.fault ≡ fault
