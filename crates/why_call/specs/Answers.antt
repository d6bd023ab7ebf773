-- Believed: what an outcome of `why` says about the slots.
use Rattle.std.specs.Prelude.{◌≡◌, ◌⊎◌, ℕ, List, [], Bool, true, false, Option, Some, None, IfSome, IsSome, Result, Ok, Err}
use Rattle.nfp_outside.specs.declared.slot.Slot.{Slot}
use Rattle.nfp_outside.specs.declared.slot.Slot.TheVariants as slots
use Rattle.nfp_outside.specs.Outside.{SlotView, IsRisen, Appends, AppendsPrefix}
use Rattle.pcap_io.specs.declared.capture.CaptureFault.{CaptureFault}
use Rattle.pcap_io.specs.declared.capture.CaptureFault.TheVariants.{BadMagic, BadVersion, BadLink, CutHead, CutRecord, FrameTooLong, TooManyRecords}
use Rattle.pcapng_io.specs.Blocks.{is_of_first_block}
use Rattle.policy_judge.specs.declared.fault.PolicyFault.{PolicyFault}
use Rattle.policy_judge.specs.Judging.{judged}
use Rattle.command_words.specs.WhyWords.{WhyAsked, WhyFiles}
use Rattle.command_words.specs.declared.usage.UsageFault.{UsageFault}
use Rattle.call_ending.specs.Left.{HasHead, HasPolicy, IsFaultOf, LeavesSlot}
use Rattle.call_ending.specs.Notes.{read_fault_text, write_fault_text}
use Rattle.call_ending.specs.Told.{IsReadWhole, OfBytes}
use Rattle.call_ending.specs.declared.outcome.Outcome.{Outcome}
use Rattle.call_ending.specs.declared.outcome.Outcome.TheVariants.{Done, Usage, Policy, Graph, Capture, CaptureNg, ReadFault, WriteFault, OutOfMemory}
use Rattle.why_call.specs.Due.{WhyDue}

-- The outcome is the one that is due, and Report holds what is due.
pub record IsDue (due : WhyDue) (old new : Slot → SlotView) (outcome : Outcome) : Type 0 where
  pub answer : outcome ≡ due.outcome
  pub left : LeavesSlot due.report (old slots.Report) (new slots.Report)

-- A fact about the bytes of Policy and Capture, if the desk shows them. Words that are refused read neither, and then the
-- fact holds for any bytes.
abbrev pub WhereRead : Result WhyAsked UsageFault → (Slot → SlotView) → (List ℕ → List ℕ → Type 0) → Type 0
WhereRead (Ok asked) old P = IfSome (old slots.Policy).bytes (λ policy. IfSome (old slots.Capture).bytes (P policy))
WhereRead (Err fault) old P = (policy capture : List ℕ) → P policy capture

-- A prefix of what is due is put into Note, and Report holds all that is due; or a prefix of the line of a fault of
-- reading or writing a slot whose count rose; or nothing.
abbrev pub NotesPrefix : WhyDue → (Slot → SlotView) → (Slot → SlotView) → Type 0
NotesPrefix due old new =
    (AppendsPrefix due.note (old slots.Note) (new slots.Note) × LeavesSlot due.report (old slots.Report) (new slots.Report))
    ⊎ ((s : Slot) × IsRisen (old s).faults (new s).faults × AppendsPrefix (read_fault_text s) (old slots.Note) (new slots.Note))
    ⊎ ((s : Slot) × IsRisen (old s).faults (new s).faults × AppendsPrefix (write_fault_text s) (old slots.Note) (new slots.Note))
    ⊎ Appends [] (old slots.Note) (new slots.Note)

-- the name that the words give a slot
abbrev pub name_of : WhyFiles → Slot → Option (List ℕ)
name_of files slots.Policy = Some files.policy
name_of files slots.Capture = Some files.capture
name_of files slots.Report = Some files.report
name_of files slots.Out = None
name_of files slots.Note = None
name_of files slots.Graph = None

-- each slot has no name or the one that the words give it, and none if the words are refused
abbrev pub HasNames : Result WhyAsked UsageFault → (Slot → SlotView) → Type 0
HasNames (Err fault) new = (s : Slot) → (new s).name ≡ None
HasNames (Ok asked) new = (s : Slot) → ((new s).name ≡ None) ⊎ ((new s).name ≡ name_of asked.files s)

-- ---- whether Report is attached

abbrev pub IsAttached : SlotView → Type 0
IsAttached report = IsSome report.name

abbrev pub IsFree : SlotView → Type 0
IsFree report = report.name ≡ None

-- a refused head leaves it unattached; it shows a fault after the head
abbrev pub FaultAttaches : CaptureFault → SlotView → Type 0
FaultAttaches BadMagic report = IsFree report
FaultAttaches BadVersion report = IsFree report
FaultAttaches (BadLink link) report = IsFree report
FaultAttaches CutHead report = IsFree report
FaultAttaches (CutRecord number) report = IsAttached report
FaultAttaches (FrameTooLong number length) report = IsAttached report
FaultAttaches TooManyRecords report = IsAttached report

-- the same for a pcapng capture, whose fault says whether the first block has it
abbrev pub AttachedUnless : Bool → SlotView → Type 0
AttachedUnless true report = IsFree report
AttachedUnless false report = IsAttached report

-- whether it is attached after this outcome, whatever the desk shows
abbrev pub ReportAttaches : Outcome → SlotView → Type 0
ReportAttaches Done report = IsAttached report
ReportAttaches (Usage fault) report = IsFree report
ReportAttaches (Policy fault) report = IsFree report
ReportAttaches (Graph fault) report = IsFree report
ReportAttaches (Capture fault) report = FaultAttaches fault report
ReportAttaches (CaptureNg fault) report = AttachedUnless (is_of_first_block fault) report
ReportAttaches (ReadFault slots.Policy) report = IsFree report
ReportAttaches (ReadFault slot) report = Unit {0}
ReportAttaches (WriteFault slots.Note) report = IsAttached report
ReportAttaches (WriteFault slot) report = Unit {0}
ReportAttaches OutOfMemory report = Unit {0}

-- the same, and never if the words are refused
abbrev pub AttachesDue : Result WhyAsked UsageFault → Outcome → SlotView → Type 0
AttachesDue (Ok asked) outcome report = ReportAttaches outcome report
AttachesDue (Err fault) outcome report = IsFree report

-- ---- what was read

-- the policy and the capture were read to their ends
abbrev pub ReadsToEnd : (Slot → SlotView) → Type 0
ReadsToEnd new = IsReadWhole (new slots.Policy) × IsReadWhole (new slots.Capture)

-- the words are accepted
abbrev pub IsAccepted : Result WhyAsked UsageFault → Type 0
IsAccepted (Ok asked) = Unit {0}
IsAccepted (Err fault) = ⊥

-- the words are accepted, and the policy has no fault
abbrev pub ReadsCapture : Result WhyAsked UsageFault → (Slot → SlotView) → Type 0
ReadsCapture (Ok asked) old = HasPolicy old
ReadsCapture (Err fault) old = ⊥

-- the same is known if work was done, or the capture has a fault
abbrev pub ReachesCapture : Result WhyAsked UsageFault → Outcome → (Slot → SlotView) → Type 0
ReachesCapture asked Done old = ReadsCapture asked old
ReachesCapture asked (Capture fault) old = ReadsCapture asked old
ReachesCapture asked (CaptureNg fault) old = ReadsCapture asked old
ReachesCapture asked outcome old = Unit {0}

-- ---- causes

-- Why a policy was refused: the words are accepted, this is its first fault, and the capture wasn't attached. If the desk
-- doesn't show the policy, this is the first fault of some policy.
abbrev pub PolicyCause : Result WhyAsked UsageFault → (Slot → SlotView) → (Slot → SlotView) → PolicyFault → Type 0
PolicyCause asked old new fault = IsAccepted asked × OfBytes (old slots.Policy).bytes (λ bytes. IsFaultOf fault (judged bytes)) × ((new slots.Capture).name ≡ None)

-- why a read slot gave a fault: its count rose; for the policy, before the capture was attached, and for the capture,
-- after a policy without fault
abbrev pub ReadFaultCause : Result WhyAsked UsageFault → (Slot → SlotView) → (Slot → SlotView) → Slot → Type 0
ReadFaultCause asked old new slots.Policy = IsAccepted asked × IsRisen (old slots.Policy).faults (new slots.Policy).faults × ((new slots.Capture).name ≡ None)
ReadFaultCause asked old new slots.Capture = ReadsCapture asked old × IsRisen (old slots.Capture).faults (new slots.Capture).faults
ReadFaultCause asked old new slots.Out = ⊥
ReadFaultCause asked old new slots.Report = ⊥
ReadFaultCause asked old new slots.Note = ⊥
ReadFaultCause asked old new slots.Graph = ⊥

-- why a written slot gave a fault: its count rose, for Report after a policy without fault and a good head, and for Note
-- if the work was done
abbrev pub WriteFaultCause : Result WhyAsked UsageFault → (Slot → SlotView) → (Slot → SlotView) → Slot → Type 0
WriteFaultCause asked old new slots.Report = (ReadsCapture asked old × HasHead old) × IsRisen (old slots.Report).faults (new slots.Report).faults
WriteFaultCause asked old new slots.Note = ReadsCapture asked old × IsRisen (old slots.Note).faults (new slots.Note).faults
WriteFaultCause asked old new slots.Out = ⊥
WriteFaultCause asked old new slots.Policy = ⊥
WriteFaultCause asked old new slots.Capture = ⊥
WriteFaultCause asked old new slots.Graph = ⊥
