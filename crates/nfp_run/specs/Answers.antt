-- Believed: what an outcome says about the slots.
use Rattle.std.specs.Prelude.{◌≡◌, ◌⊎◌, ℕ, List, [], ◌++◌, Option, Some, None, IfSome, IsSome, IsOk, Bool, true, false, Result, Ok, Err}
use Rattle.std.specs.Option.{option_map}
use Rattle.nfp_outside.specs.declared.slot.Slot.{Slot}
use Rattle.nfp_outside.specs.declared.slot.Slot.TheVariants as slots
use Rattle.nfp_outside.specs.Outside.{SlotView, IsRisen, Appends, AppendsPrefix}
use Rattle.pcap_io.specs.Capture.{capture_of}
use Rattle.pcap_io.specs.declared.capture.CaptureFault.{CaptureFault}
use Rattle.pcap_io.specs.declared.capture.CaptureFault.TheVariants.{BadMagic, BadVersion, BadLink, CutHead, CutRecord, FrameTooLong, TooManyRecords}
use Rattle.pcapng_io.specs.Blocks.{is_of_first_block, next_of, start}
use Rattle.graph_text.specs.declared.fault.GraphFault.{GraphFault}
use Rattle.policy_judge.specs.declared.fault.PolicyFault.{PolicyFault}
use Rattle.policy_judge.specs.declared.fault.Refusal.{Refusal}
use Rattle.policy_judge.specs.declared.judged.Judged.{Judged}
use Rattle.policy_judge.specs.Judging.{judged}
use Rattle.call_ending.specs.declared.outcome.Outcome.{Outcome}
use Rattle.call_ending.specs.declared.outcome.Outcome.TheVariants.{Done, Usage, Policy, Graph, Capture, CaptureNg, ReadFault, WriteFault, OutOfMemory}
use Rattle.command_words.specs.declared.usage.UsageFault.{UsageFault}
use Rattle.command_words.specs.Words.{Command, Run, Plan, Demo, Flows}
use Rattle.call_ending.specs.Notes.{read_fault_text, write_fault_text}
pub use Rattle.call_ending.specs.Left.{IsUntouched, Holds, HoldsPrefix, LeavesSlot, LeavesPrefix, IsFinal, NoneRose, note_due, HasPolicy, HasNoOpeningFault, HasHead, IsFaultOf}
use Rattle.nfp_run.specs.Preparing.{Unprepared, ByPolicy, ByGraph, prepared}
use Rattle.nfp_run.specs.declared.prepared.Prepared.{Prepared}
use Rattle.nfp_run.specs.Due.{Due}
use Rattle.call_ending.specs.Told.{IsReadWhole, OfBytes, is_ng}
use Rattle.nfp_run.specs.Written.{Files}

-- Out and Report hold what is due.
abbrev pub Leaves : Files → (Slot → SlotView) → (Slot → SlotView) → Type 0
Leaves due old new = LeavesSlot due.out (old slots.Out) (new slots.Out) × LeavesSlot due.report (old slots.Report) (new slots.Report)

-- Each holds a prefix of what is due, or was never attached.
abbrev pub LeavesPrefixes : Files → (Slot → SlotView) → (Slot → SlotView) → Type 0
LeavesPrefixes due old new = LeavesPrefix due.out (old slots.Out) (new slots.Out) × LeavesPrefix due.report (old slots.Report) (new slots.Report)

-- The outcome is the one that is due, and Out and Report hold what is due.
pub record IsDue (due : Due) (old new : Slot → SlotView) (outcome : Outcome) : Type 0 where
  pub answer : outcome ≡ due.outcome
  pub left : Leaves due.written old new

-- a fact about the bytes of a slot, if the words name it and the desk shows them; without a name it is for any bytes
abbrev pub WhereNamed : Option (List ℕ) → Option (List ℕ) → (List ℕ → Type 0) → Type 0
WhereNamed None bytes P = (text : List ℕ) → P text
WhereNamed (Some name) bytes P = IfSome bytes P

-- a fact about the bytes of Policy, and of Graph if it has this name, if the desk shows them
abbrev pub WhereTexts : Option (List ℕ) → (Slot → SlotView) → (List ℕ → List ℕ → Type 0) → Type 0
WhereTexts named old P = IfSome (old slots.Policy).bytes (λ policy. WhereNamed named (old slots.Graph).bytes (P policy))

-- The same if the desk shows what the words read: `run` reads Policy, Graph if the words name it, and Capture,
-- `plan` the same without Capture, and `flows` Capture. A demo and words that are refused read none. For a slot that
-- isn't read the fact holds for any content, also if the desk doesn't show it.
abbrev pub WhereRead : Result Command UsageFault → (Slot → SlotView) → (List ℕ → List ℕ → List ℕ → Type 0) → Type 0
WhereRead (Ok (Run names options)) old P = WhereTexts names.graph old (λ policy graph. IfSome (old slots.Capture).bytes (P policy graph))
WhereRead (Ok (Plan names)) old P = WhereTexts names.graph old (λ policy graph. (capture : List ℕ) → P policy graph capture)
WhereRead (Ok (Demo input options)) old P = (policy graph capture : List ℕ) → P policy graph capture
WhereRead (Ok (Flows names options)) old P = IfSome (old slots.Capture).bytes (λ capture. (policy graph : List ℕ) → P policy graph capture)
WhereRead (Err fault) old P = (policy graph capture : List ℕ) → P policy graph capture

-- A prefix of what is due is put into Note, and Out and Report hold all that is due; or a prefix of the line of a fault
-- of reading or writing a slot whose count rose; or nothing.
abbrev pub NotesPrefix : List ℕ → Files → (Slot → SlotView) → (Slot → SlotView) → Type 0
NotesPrefix note written old new =
    (AppendsPrefix note (old slots.Note) (new slots.Note) × Leaves written old new)
    ⊎ ((s : Slot) × IsRisen (old s).faults (new s).faults × AppendsPrefix (read_fault_text s) (old slots.Note) (new slots.Note))
    ⊎ ((s : Slot) × IsRisen (old s).faults (new s).faults × AppendsPrefix (write_fault_text s) (old slots.Note) (new slots.Note))
    ⊎ Appends [] (old slots.Note) (new slots.Note)

-- the name that a command gives a slot
abbrev pub name_of : Command → Slot → Option (List ℕ)
name_of (Run names options) slots.Policy = Some names.policy
name_of (Run names options) slots.Capture = Some names.capture
name_of (Run names options) slots.Out = Some names.out
name_of (Run names options) slots.Report = Some names.report
name_of (Run names options) slots.Note = None
name_of (Run names options) slots.Graph = names.graph
name_of (Plan names) slots.Policy = Some names.policy
name_of (Plan names) slots.Graph = names.graph
name_of (Plan names) slot = None
name_of (Demo input options) slot = None
name_of (Flows names options) slots.Capture = Some names.capture
name_of (Flows names options) slots.Out = Some names.out
name_of (Flows names options) slot = None

-- each slot has no name or the one that the words give it, and none if the words are refused
abbrev pub HasNames : Result Command UsageFault → (Slot → SlotView) → Type 0
HasNames (Err fault) new = (s : Slot) → (new s).name ≡ None
HasNames (Ok command) new = (s : Slot) → ((new s).name ≡ None) ⊎ ((new s).name ≡ name_of command s)

-- the policy has no fault, nor have the graphs if the words name them
abbrev pub HasTexts : Option (List ℕ) → (Slot → SlotView) → Type 0
HasTexts named old = HasPolicy old × WhereTexts named old (λ policy graph. IsOk (prepared named policy graph))

-- the head of a capture whose flows are counted has no fault, if the desk shows it: it has to be a classic one
abbrev pub HasClassicHead : (Slot → SlotView) → Type 0
HasClassicHead old = IfSome (old slots.Capture).bytes (λ bytes. IsOk (capture_of bytes))

-- Out and Report are attached, or neither is, or Out alone
abbrev pub BothAttached : (Slot → SlotView) → Type 0
BothAttached new = IsSome (new slots.Out).name × IsSome (new slots.Report).name

abbrev pub NoneAttached : (Slot → SlotView) → Type 0
NoneAttached new = ((new slots.Out).name ≡ None) × ((new slots.Report).name ≡ None)

abbrev pub OutAttached : (Slot → SlotView) → Type 0
OutAttached new = IsSome (new slots.Out).name × ((new slots.Report).name ≡ None)

-- Report is attached only behind Out
abbrev pub ReportBehindOut : (Slot → SlotView) → Type 0
ReportBehindOut new = ((new slots.Report).name ≡ None) ⊎ IsSome (new slots.Out).name

-- a refused head leaves both unattached; the report shows a fault after it
abbrev pub FaultAttaches : CaptureFault → (Slot → SlotView) → Type 0
FaultAttaches BadMagic new = NoneAttached new
FaultAttaches BadVersion new = NoneAttached new
FaultAttaches (BadLink link) new = NoneAttached new
FaultAttaches CutHead new = NoneAttached new
FaultAttaches (CutRecord number) new = BothAttached new
FaultAttaches (FrameTooLong number length) new = BothAttached new
FaultAttaches TooManyRecords new = BothAttached new

-- the same for a pcapng capture, whose fault says whether the first block has it
abbrev pub AttachedUnless : Bool → (Slot → SlotView) → Type 0
AttachedUnless true new = NoneAttached new
AttachedUnless false new = BothAttached new

-- which of Out and Report `run` attaches, whatever the desk shows; Out is attached before Report
abbrev pub RunAttaches : Outcome → (Slot → SlotView) → Type 0
RunAttaches Done new = BothAttached new
RunAttaches (Usage fault) new = NoneAttached new
RunAttaches (Policy fault) new = NoneAttached new
RunAttaches (Graph fault) new = NoneAttached new
RunAttaches (Capture fault) new = FaultAttaches fault new
RunAttaches (CaptureNg fault) new = AttachedUnless (is_of_first_block fault) new
RunAttaches (ReadFault slots.Policy) new = NoneAttached new
RunAttaches (ReadFault slots.Graph) new = NoneAttached new
RunAttaches (ReadFault slot) new = Unit {0}
RunAttaches (WriteFault slots.Note) new = BothAttached new
RunAttaches (WriteFault slots.Report) new = IsSome (new slots.Out).name
RunAttaches (WriteFault slot) new = Unit {0}
RunAttaches OutOfMemory new = Unit {0}

-- the same for flows: a fault after the head leaves Out attached
abbrev pub FaultAttachesOut : CaptureFault → (Slot → SlotView) → Type 0
FaultAttachesOut BadMagic new = NoneAttached new
FaultAttachesOut BadVersion new = NoneAttached new
FaultAttachesOut (BadLink link) new = NoneAttached new
FaultAttachesOut CutHead new = NoneAttached new
FaultAttachesOut (CutRecord number) new = OutAttached new
FaultAttachesOut (FrameTooLong number length) new = OutAttached new
FaultAttachesOut TooManyRecords new = OutAttached new

-- which of them `flows` attaches: Report never
abbrev pub FlowsAttach : Outcome → (Slot → SlotView) → Type 0
FlowsAttach Done new = OutAttached new
FlowsAttach (Usage fault) new = NoneAttached new
FlowsAttach (Policy fault) new = NoneAttached new
FlowsAttach (Graph fault) new = NoneAttached new
FlowsAttach (Capture fault) new = FaultAttachesOut fault new
FlowsAttach (CaptureNg fault) new = NoneAttached new
FlowsAttach (WriteFault slots.Note) new = OutAttached new
FlowsAttach (WriteFault slot) new = (new slots.Report).name ≡ None
FlowsAttach (ReadFault slot) new = (new slots.Report).name ≡ None
FlowsAttach OutOfMemory new = (new slots.Report).name ≡ None

-- a plan attaches neither, nor does a demo, nor do words that are refused
abbrev pub AttachesDue : Result Command UsageFault → Outcome → (Slot → SlotView) → Type 0
AttachesDue (Ok (Run names options)) outcome new = RunAttaches outcome new
AttachesDue (Ok (Plan names)) outcome new = NoneAttached new
AttachesDue (Ok (Demo input options)) outcome new = NoneAttached new
AttachesDue (Ok (Flows names options)) outcome new = FlowsAttach outcome new
AttachesDue (Err fault) outcome new = NoneAttached new

-- the same for the policy, and for the graphs if they have a name among the words
abbrev pub AreTextsReadWhole : Option (List ℕ) → (Slot → SlotView) → Type 0
AreTextsReadWhole None new = IsReadWhole (new slots.Policy)
AreTextsReadWhole (Some name) new = IsReadWhole (new slots.Policy) × IsReadWhole (new slots.Graph)

-- what the words name for reading was read to its end
abbrev pub ReadsToEnd : Result Command UsageFault → (Slot → SlotView) → Type 0
ReadsToEnd (Ok (Run names options)) new = AreTextsReadWhole names.graph new × IsReadWhole (new slots.Capture)
ReadsToEnd (Ok (Plan names)) new = AreTextsReadWhole names.graph new
ReadsToEnd (Ok (Demo input options)) new = Unit {0}
ReadsToEnd (Ok (Flows names options)) new = IsReadWhole (new slots.Capture)
ReadsToEnd (Err fault) new = Unit {0}

-- what is known about the words, the policy and the graphs if work was done, or a slot was written: `run` and `plan`
-- need both without fault, and only `run` and `flows` report a fault of a capture
abbrev pub ReachesCapture : Result Command UsageFault → Outcome → (Slot → SlotView) → Type 0
ReachesCapture (Ok (Run names options)) Done old = HasTexts names.graph old
ReachesCapture (Ok (Plan names)) Done old = HasTexts names.graph old
ReachesCapture (Ok (Demo input options)) Done old = Unit {0}
ReachesCapture (Ok (Flows names options)) Done old = Unit {0}
ReachesCapture (Err fault) Done old = ⊥
ReachesCapture (Ok (Run names options)) (Capture fault) old = HasTexts names.graph old
ReachesCapture (Ok (Flows names options)) (Capture fault) old = Unit {0}
ReachesCapture command (Capture fault) old = ⊥
ReachesCapture (Ok (Run names options)) (CaptureNg fault) old = HasTexts names.graph old
ReachesCapture command (CaptureNg fault) old = ⊥
ReachesCapture command outcome old = Unit {0}

-- the words are a command that reads a policy
abbrev pub ReadsPolicy : Result Command UsageFault → Type 0
ReadsPolicy (Ok (Run names options)) = Unit {0}
ReadsPolicy (Ok (Plan names)) = Unit {0}
ReadsPolicy (Ok (Demo input options)) = ⊥
ReadsPolicy (Ok (Flows names options)) = ⊥
ReadsPolicy (Err fault) = ⊥

-- Why a policy was refused: the words are a command that reads one, this is its first fault, and the capture wasn't
-- attached. If the desk doesn't show the policy, this is the first fault of some policy.
abbrev pub PolicyCause : Result Command UsageFault → (Slot → SlotView) → (Slot → SlotView) → PolicyFault → Type 0
PolicyCause command old new fault = ReadsPolicy command × OfBytes (old slots.Policy).bytes (λ bytes. IsFaultOf fault (judged bytes)) × ((new slots.Capture).name ≡ None)

-- the words are a command that reads graphs of this name
abbrev pub ReadsGraph : Result Command UsageFault → Option (List ℕ) → Type 0
ReadsGraph (Ok (Run names options)) named = names.graph ≡ named
ReadsGraph (Ok (Plan names)) named = names.graph ≡ named
ReadsGraph (Ok (Demo input options)) named = ⊥
ReadsGraph (Ok (Flows names options)) named = ⊥
ReadsGraph (Err fault) named = ⊥

-- a policy without fault was refused for these graphs, which have this fault
abbrev pub IsGraphFaultOf : GraphFault → Result Prepared Unprepared → Type 0
IsGraphFaultOf fault (Ok p) = ⊥
IsGraphFaultOf fault (Err (ByPolicy refusal)) = ⊥
IsGraphFaultOf fault (Err (ByGraph refusal)) = refusal.fault ≡ fault

-- Why graphs were refused: the words name them, the policy has no fault, theirs is this, and no capture was attached.
pub record GraphCause (command : Result Command UsageFault) (old new : Slot → SlotView) (fault : GraphFault) : Type 0 where
  pub name : List ℕ
  pub named : ReadsGraph command (Some name)
  pub policy : HasPolicy old
  pub told : WhereTexts (Some name) old (λ policy graph. IsGraphFaultOf fault (prepared (Some name) policy graph))
  pub no_capture : (new slots.Capture).name ≡ None

-- Why Graph gave a fault: the words name it, its count rose, the policy has no fault, and no capture was attached.
pub record GraphReadCause (command : Result Command UsageFault) (old new : Slot → SlotView) : Type 0 where
  pub name : List ℕ
  pub named : ReadsGraph command (Some name)
  pub policy : HasPolicy old
  pub risen : IsRisen (old slots.Graph).faults (new slots.Graph).faults
  pub no_capture : (new slots.Capture).name ≡ None

-- the words are a command that reads a capture, and nothing is wrong with what it looks at before
abbrev pub ReadsCapture : Result Command UsageFault → (Slot → SlotView) → Type 0
ReadsCapture (Ok (Run names options)) old = HasTexts names.graph old
ReadsCapture (Ok (Flows names options)) old = Unit {0}
ReadsCapture command old = ⊥

-- the words are a command that writes Out, and nothing is wrong with what it looks at before
abbrev pub WritesOut : Result Command UsageFault → (Slot → SlotView) → Type 0
WritesOut (Ok (Run names options)) old = HasTexts names.graph old × HasHead old
WritesOut (Ok (Flows names options)) old = HasClassicHead old
WritesOut command old = ⊥

-- the words are `run`, and nothing is wrong with what it reads before it writes Report
abbrev pub WritesReport : Result Command UsageFault → (Slot → SlotView) → Type 0
WritesReport (Ok (Run names options)) old = HasTexts names.graph old × HasHead old
WritesReport command old = ⊥

-- why a read slot gave a fault: its count rose; for the policy, before the capture was attached, and for the
-- capture, after a policy and graphs without fault
abbrev pub ReadFaultCause : Result Command UsageFault → (Slot → SlotView) → (Slot → SlotView) → Slot → Type 0
ReadFaultCause command old new slots.Policy = ReadsPolicy command × IsRisen (old slots.Policy).faults (new slots.Policy).faults × ((new slots.Capture).name ≡ None)
ReadFaultCause command old new slots.Capture = ReadsCapture command old × IsRisen (old slots.Capture).faults (new slots.Capture).faults
ReadFaultCause command old new slots.Out = ⊥
ReadFaultCause command old new slots.Report = ⊥
ReadFaultCause command old new slots.Note = ⊥
ReadFaultCause command old new slots.Graph = GraphReadCause command old new

-- why a written slot gave a fault: its count rose, for Out and Report after a policy and graphs without fault
-- and a good head, and for Note if the work was done
abbrev pub WriteFaultCause : Result Command UsageFault → (Slot → SlotView) → (Slot → SlotView) → Slot → Type 0
WriteFaultCause command old new slots.Out = WritesOut command old × IsRisen (old slots.Out).faults (new slots.Out).faults
WriteFaultCause command old new slots.Report = WritesReport command old × IsRisen (old slots.Report).faults (new slots.Report).faults
WriteFaultCause command old new slots.Note = IsRisen (old slots.Note).faults (new slots.Note).faults × ReachesCapture command Done old
WriteFaultCause command old new slots.Policy = ⊥
WriteFaultCause command old new slots.Capture = ⊥
WriteFaultCause command old new slots.Graph = ⊥
