-- For proofs: how reading a text, judging a policy, opening a capture and attaching a slot that is written end.
use Rattle.std.specs.Prelude.{◌≡◌, ◌<◌, ◌⊎◌, ℕ, List, length, Bool, true, false, Option, Some, None, IfSome, IsSomeAnd, IsOk, Result, Ok, Err}
use Rattle.nfp_outside.specs.declared.slot.Slot.{Slot}
use Rattle.nfp_outside.specs.declared.slot.Slot.TheVariants as slots
use Rattle.nfp_outside.specs.declared.slot.DeskFault.{DeskFault}
use Rattle.nfp_outside.specs.declared.slot.DeskFault.TheVariants as desk
use Rattle.nfp_outside.specs.Outside.{SlotView, IsRisen, KeepsSlot}
use Rattle.capture_bytes.specs.Filling.{unread}
use Rattle.pcap_io.specs.Capture.{capture_of, IsHeadFault}
use Rattle.pcap_io.specs.Reader.{ReaderState, reader_at, body_left}
use Rattle.pcap_io.specs.declared.capture.CaptureHead.{CaptureHead}
use Rattle.pcapng_io.specs.Blocks.{blocks_of, is_of_first_block, next_of, start}
use Rattle.capture_items.specs.Formats.{is_asked, ng_left, ng_packets, ng_stream}
use Rattle.capture_items.specs.declared.fault.RunFault.{RunFault}
use Rattle.capture_items.specs.declared.fault.RunFault.TheVariants as runs
use Rattle.policy_judge.specs.declared.fault.JudgeFault.{JudgeFault}
use Rattle.policy_judge.specs.declared.fault.JudgeFault.TheVariants as faults
use Rattle.policy_judge.specs.declared.fault.PolicyFault.TheVariants as policies
use Rattle.policy_judge.specs.Judging.{judged, told}
use Rattle.policy_judge.specs.Lines.{too_long_line}
use Rattle.call_ending.specs.declared.outcome.Outcome.{Outcome}
use Rattle.call_ending.specs.declared.outcome.Outcome.TheVariants.{Done, Usage, Policy, Graph, Capture, CaptureNg, ReadFault, WriteFault, OutOfMemory}
use Rattle.call_ending.specs.declared.ending.Ending.{Ending}
use Rattle.call_ending.specs.declared.ending.Ending.TheVariants.{Completed, Shown, Refused, GraphRefused, Stopped}
use Rattle.call_ending.specs.declared.read.Opened.{Opened}
use Rattle.call_ending.specs.declared.read.Opened.TheVariants.{Pcap, Ng}
use Rattle.call_ending.specs.declared.read.Unread.{Unread}
use Rattle.call_ending.specs.declared.read.Unread.TheVariants.{TooLong, Failed, NoMemory}
use Rattle.call_ending.specs.Told.{OfBytes, is_ng, is_ng_front}

-- Why a slot wasn't read whole: it has more bytes than allowed, its count rose, or it ran out of memory.
abbrev pub IsUnread : ℕ → SlotView → SlotView → Unread → Type 0
IsUnread max old new TooLong = IfSome old.bytes (λ bytes. max < length bytes)
IsUnread max old new Failed = IsRisen old.faults new.faults
IsUnread max old new NoMemory = Unit {0}

-- how a call ends if the policy was judged so
abbrev pub refused_by : JudgeFault → Ending
refused_by (faults.Refused refusal) = Refused refusal
refused_by faults.OutOfMemory = Stopped OutOfMemory

-- how a call ends if its policy wasn't read
abbrev pub UnreadEnds : Unread → Ending → Type 0
UnreadEnds TooLong ending = (ending ≡ Refused (told policies.TooLong too_long_line)) ⊎ (ending ≡ Stopped OutOfMemory)
UnreadEnds Failed ending = ending ≡ Stopped (ReadFault slots.Policy)
UnreadEnds NoMemory ending = ending ≡ Stopped OutOfMemory

-- Why a call ends at the policy: it has a fault, its count rose, or it ran out of memory.
abbrev pub EndsAtPolicy : SlotView → SlotView → Ending → Type 0
EndsAtPolicy old new (Refused refusal) = OfBytes old.bytes (λ bytes. judged bytes ≡ Err refusal)
EndsAtPolicy old new (Stopped (ReadFault s)) = (s ≡ slots.Policy) × IsRisen old.faults new.faults
EndsAtPolicy old new (Stopped OutOfMemory) = Unit {0}
EndsAtPolicy old new (Stopped Done) = ⊥
EndsAtPolicy old new (Stopped (Usage fault)) = ⊥
EndsAtPolicy old new (Stopped (Policy fault)) = ⊥
EndsAtPolicy old new (Stopped (Graph fault)) = ⊥
EndsAtPolicy old new (Stopped (Capture fault)) = ⊥
EndsAtPolicy old new (Stopped (CaptureNg fault)) = ⊥
EndsAtPolicy old new (Stopped (WriteFault s)) = ⊥
EndsAtPolicy old new (Completed totals) = ⊥
EndsAtPolicy old new (Shown text) = ⊥
EndsAtPolicy old new (GraphRefused refusal) = ⊥

-- nothing was given yet
abbrev pub IsBefore : Opened → Type 0
IsBefore (Pcap head reader) = reader ≡ reader_at head.order 0
IsBefore (Ng source) = (ng_packets source ≡ 0) × (is_asked source ≡ true)

-- it is of this format
abbrev pub IsOfFormat : Bool → Opened → Type 0
IsOfFormat ng (Pcap head reader) = ng ≡ false
IsOfFormat ng (Ng source) = ng ≡ true

-- all of a capture with these bytes except its head remains, and the head has no fault
abbrev pub LeavesAll : Opened → SlotView → List ℕ → Type 0
LeavesAll (Pcap head reader) new bytes = IsSomeAnd (body_left reader new) (λ body. capture_of bytes ≡ Ok (head, body))
LeavesAll (Ng source) new bytes = (ng_left source new ≡ Some (ng_stream (blocks_of start bytes))) × IsOk (next_of start bytes)

-- A capture was opened whose first bytes, these, were read before.
pub record OpensBehind (first : List ℕ) (opened : Opened) (old new : SlotView) : Type 0 where
  pub before : IsBefore opened
  pub format : IsOfFormat (is_ng_front first) opened
  pub whole : IfSome (unread first old).bytes (LeavesAll opened new)

-- A capture was opened by its name.
pub record Opens (name : List ℕ) (opened : Opened) (old new : SlotView) : Type 0 where
  pub named : new.name ≡ Some name
  pub before : IsBefore opened
  pub whole : IfSome old.bytes (λ bytes. IsOfFormat (is_ng bytes) opened × LeavesAll opened new bytes)

-- Why a capture whose first bytes, these, were read before wasn't opened: its head or its first block is refused, its
-- count rose, or it ran out of memory.
abbrev pub RefusesBehind : List ℕ → SlotView → SlotView → Outcome → Type 0
RefusesBehind first old new (Capture fault) = IsHeadFault fault × (is_ng_front first ≡ false) × IfSome (unread first old).bytes (λ bytes. capture_of bytes ≡ Err fault)
RefusesBehind first old new (CaptureNg fault) = (is_of_first_block fault ≡ true) × (is_ng_front first ≡ true) × IfSome (unread first old).bytes (λ bytes. next_of start bytes ≡ Err fault)
RefusesBehind first old new (ReadFault s) = (s ≡ slots.Capture) × IsRisen old.faults new.faults
RefusesBehind first old new OutOfMemory = Unit {0}
RefusesBehind first old new Done = ⊥
RefusesBehind first old new (Usage fault) = ⊥
RefusesBehind first old new (Policy fault) = ⊥
RefusesBehind first old new (Graph fault) = ⊥
RefusesBehind first old new (WriteFault s) = ⊥

-- the same for a capture that was to be opened by its name
abbrev pub RefusedOpening : SlotView → SlotView → Outcome → Type 0
RefusedOpening old new (Capture fault) = IsHeadFault fault × IfSome old.bytes (λ bytes. (is_ng bytes ≡ false) × (capture_of bytes ≡ Err fault))
RefusedOpening old new (CaptureNg fault) = (is_of_first_block fault ≡ true) × IfSome old.bytes (λ bytes. (is_ng bytes ≡ true) × (next_of start bytes ≡ Err fault))
RefusedOpening old new (ReadFault s) = (s ≡ slots.Capture) × IsRisen old.faults new.faults
RefusedOpening old new OutOfMemory = Unit {0}
RefusedOpening old new Done = ⊥
RefusedOpening old new (Usage fault) = ⊥
RefusedOpening old new (Policy fault) = ⊥
RefusedOpening old new (Graph fault) = ⊥
RefusedOpening old new (WriteFault s) = ⊥

-- the answer to a capture that a desk refused to attach or to read
abbrev pub unread_capture : DeskFault → Outcome
unread_capture desk.Failed = ReadFault slots.Capture
unread_capture desk.NoMemory = OutOfMemory

-- A classic capture was opened by its name: all of it except its head remains, and the head has no fault.
pub record OpensClassic (name : List ℕ) (head : CaptureHead) (reader : ReaderState) (old new : SlotView) : Type 0 where
  pub named : new.name ≡ Some name
  pub fresh : reader ≡ reader_at head.order 0
  pub whole : IfSome old.bytes (λ bytes. IsSomeAnd (body_left reader new) (λ body. capture_of bytes ≡ Ok (head, body)))

-- Why none was: its head is refused, its count rose, or it ran out of memory.
abbrev pub RefusedClassic : SlotView → SlotView → Outcome → Type 0
RefusedClassic old new (Capture fault) = IsHeadFault fault × IfSome old.bytes (λ bytes. capture_of bytes ≡ Err fault)
RefusedClassic old new (ReadFault s) = (s ≡ slots.Capture) × IsRisen old.faults new.faults
RefusedClassic old new OutOfMemory = Unit {0}
RefusedClassic old new Done = ⊥
RefusedClassic old new (Usage fault) = ⊥
RefusedClassic old new (Policy fault) = ⊥
RefusedClassic old new (Graph fault) = ⊥
RefusedClassic old new (CaptureNg fault) = ⊥
RefusedClassic old new (WriteFault s) = ⊥

-- why a slot wasn't attached: its count rose, or it ran out of memory
abbrev pub AttachCause : Slot → SlotView → SlotView → RunFault → Type 0
AttachCause slot old new (runs.WriteFault s) = (s ≡ slot) × IsRisen old.faults new.faults
AttachCause slot old new runs.OutOfMemory = Unit {0}
AttachCause slot old new runs.ReadFault = ⊥

-- A slot wasn't attached, and is unchanged.
pub record RefusesAttaching (slot : Slot) (old new : SlotView) (fault : RunFault) : Type 0 where
  pub keeps : KeepsSlot old new
  pub cause : AttachCause slot old new fault
