-- What a call that counted the flows of a capture leaves, before its line is put into Note.
use Rattle.std.proofs.Common.{◌≡◌, ◌≢◌, ◌≤◌, ◌∙◌, ◌⊎◌, inl, inr, ℕ, List, refl, ap, sym, subst, arith, rules}
use Rattle.std.specs.Prelude.{length, Option, Some, None, IfSome, IsSome, IsSomeAnd, IsOk, Result, Ok, Err}
use Rattle.std.specs.Option.{option_map}
use Rattle.nfp_outside.specs.declared.slot.Slot.{Slot}
use Rattle.nfp_outside.specs.declared.slot.Slot.TheVariants as slots
use Rattle.nfp_outside.specs.Outside.{SlotView, IsRisen}
use Rattle.capture_bytes.specs.declared.packet.Unit.{Unit as TimeUnit}
use Rattle.pcap_io.specs.Capture.{Body, capture_of}
use Rattle.pcap_io.specs.Reader.{ReaderState, body_left}
use Rattle.pcap_io.specs.declared.capture.CaptureFault.{CaptureFault}
use Rattle.pcap_io.specs.declared.capture.CaptureFault.TheVariants.{BadMagic, BadVersion, BadLink, CutHead, CutRecord, FrameTooLong, TooManyRecords}
use Rattle.pcap_io.specs.declared.capture.CaptureHead.{CaptureHead}
use Rattle.graph_text.specs.declared.fault.GraphFault.{GraphFault}
use Rattle.policy_judge.specs.declared.fault.PolicyFault.{PolicyFault}
use Rattle.capture_items.specs.declared.fault.FormatFault.TheVariants.{Pcap}
use Rattle.capture_items.specs.declared.fault.RunFault.{RunFault}
use Rattle.capture_items.specs.declared.fault.RunFault.TheVariants as faults
use Rattle.command_words.specs.declared.requests.FlowOptions.{FlowOptions}
use Rattle.command_words.specs.declared.usage.UsageFault.{UsageFault}
use Rattle.command_words.specs.Words.{Command, FlowFiles, Flows}
use Rattle.flow_run.specs.FlowsOut.{flow_lines}
use Rattle.nfp_run.specs.Answers.{AttachesDue, IsFinal, IsUntouched, Leaves, LeavesPrefix, LeavesPrefixes, LeavesSlot, ReachesCapture, ReadFaultCause, WriteFaultCause, name_of}
use Rattle.call_ending.specs.Told.{IsReadWhole}
use Rattle.call_ending.specs.Broken.{broken_by}
use Rattle.call_ending.specs.Endings.{CountsWithin, outcome_seen, text_of}
use Rattle.nfp_run.specs.Closing.{EndsDue}
use Rattle.nfp_run.specs.Due.{Due, due_of_body, due_of_command, due_of_flows, flows_note, outcome_of}
use Rattle.nfp_run.specs.FlowsRan.{FlowsBroken, FlowsEnd, FlowsEndTold, flows_ending}
use Rattle.call_ending.specs.Reading.{RefusedClassic}
use Rattle.nfp_run.specs.Ran.{Ran}
use Rattle.nfp_run.specs.Written.{Files}
use Rattle.call_ending.specs.declared.ending.Ending.{Ending}
use Rattle.call_ending.specs.declared.ending.Ending.TheVariants.{Completed, Shown, Refused, GraphRefused, Stopped}
use Rattle.call_ending.specs.declared.outcome.Outcome.{Outcome}
use Rattle.call_ending.specs.declared.outcome.Outcome.TheVariants.{Done, Usage, Policy, Graph, Capture, CaptureNg, ReadFault, WriteFault, OutOfMemory}
use Rattle.nfp_run.proofs.HeldBytes.{untouched_same, whole_prefix}
use Rattle.nfp_run.proofs.OtherSlots.{report_is_not_capture, report_is_not_out}

-- the command of these words
abbrev asked : FlowFiles → FlowOptions → Result Command UsageFault
asked names options = Ok (Flows names options)

-- nothing was attached before, and which slots are attached since
pub record Stays (names : FlowFiles) (old new : Slot → SlotView) : Type 0 where
  pub free : (s : Slot) → (old s).name ≡ None
  pub capture : ((new slots.Capture).name ≡ None) ⊎ ((new slots.Capture).name ≡ Some names.capture)
  pub out : ((new slots.Out).name ≡ None) ⊎ ((new slots.Out).name ≡ Some names.out)
  pub others : (s : Slot) → s ≢ slots.Out → s ≢ slots.Capture → new s ≡ old s

free_still : (names : FlowFiles) (old new : Slot → SlotView) (s : Slot) → Stays names old new → s ≢ slots.Out → s ≢ slots.Capture → (new s).name ≡ None
free_still names old new s stays out capture = ap (λ v. v.name) (stays.others s out capture) ∙ stays.free s

names_are : (names : FlowFiles) (options : FlowOptions) (old new : Slot → SlotView) → Stays names old new → (s : Slot) → ((new s).name ≡ None) ⊎ ((new s).name ≡ name_of (Flows names options) s)
names_are names options old new stays slots.Policy = inl (free_still names old new slots.Policy stays (λ h. cc) (λ h. cc))
names_are names options old new stays slots.Capture = stays.capture
names_are names options old new stays slots.Out = stays.out
names_are names options old new stays slots.Report = inl (free_still names old new slots.Report stays (λ h. cc) (λ h. cc))
names_are names options old new stays slots.Note = inl (free_still names old new slots.Note stays (λ h. cc) (λ h. cc))
names_are names options old new stays slots.Graph = inl (free_still names old new slots.Graph stays (λ h. cc) (λ h. cc))

no_report : (names : FlowFiles) (old new : Slot → SlotView) → Stays names old new → (new slots.Report).name ≡ None
no_report names old new stays = free_still names old new slots.Report stays (λ h. cc) (λ h. cc)

note_stays : (names : FlowFiles) (old new : Slot → SlotView) → Stays names old new → new slots.Note ≡ old slots.Note
note_stays names old new stays = stays.others slots.Note (λ h. cc) (λ h. cc)

-- what holds for all bytes holds for those that are known
each : (o : Option (List ℕ)) (P Q : List ℕ → Type 0) → ((b : List ℕ) → P b → Q b) → IfSome o P → IfSome o Q
each None P Q f h = tt
each (Some b) P Q f h = f b h

always : (o : Option (List ℕ)) (Q : List ℕ → Type 0) → ((b : List ℕ) → Q b) → IfSome o Q
always None Q f = tt
always (Some b) Q f = f b

untouched_prefix : (due : Option (List ℕ)) (x y : SlotView) → IsUntouched x y → LeavesPrefix due x y
untouched_prefix None x y same = same
untouched_prefix (Some bytes) x y same = inl same

slot_prefix : (due : Option (List ℕ)) (x y : SlotView) → LeavesSlot due x y → LeavesPrefix due x y
slot_prefix None x y same = same
slot_prefix (Some bytes) x y holds = inr (whole_prefix bytes x y holds)

-- ---- the capture's head was refused, or it wasn't read

-- a slot of a fault of reading, and of a fault of writing
abbrev read_slot : Outcome → Slot
read_slot (ReadFault s) = s
read_slot outcome = slots.Capture

abbrev write_slot : Outcome → Slot
write_slot (WriteFault s) = s
write_slot outcome = slots.Out

unopened_due : (names : FlowFiles) (options : FlowOptions) (old new : Slot → SlotView) (outcome : Outcome) → RefusedClassic (old slots.Capture) (new slots.Capture) outcome →
    IsUntouched (old slots.Out) (new slots.Out) → IsUntouched (old slots.Report) (new slots.Report) →
    IsFinal outcome → IfSome (old slots.Capture).bytes (λ c. (p g : List ℕ) → EndsDue (due_of_command (asked names options) p g c) old new (Stopped outcome))
unopened_due names options old new (Capture fault) refused out report final =
    each (old slots.Capture).bytes (λ bytes. capture_of bytes ≡ Err fault) (λ c. (p g : List ℕ) → EndsDue (due_of_command (asked names options) p g c) old new (Stopped (Capture fault)))
    (λ bytes is p g. subst (λ r. EndsDue (due_of_flows r) old new (Stopped (Capture fault))) (sym is) (record { answer = refl; left = (out, report); note = refl })) refused.1
unopened_due names options old new Done refused out report final = absurd refused
unopened_due names options old new (Usage fault) refused out report final = absurd refused
unopened_due names options old new (Policy fault) refused out report final = absurd refused
unopened_due names options old new (Graph fault) refused out report final = absurd refused
unopened_due names options old new (CaptureNg fault) refused out report final = absurd refused
unopened_due names options old new (ReadFault s) refused out report final = absurd final
unopened_due names options old new (WriteFault s) refused out report final = absurd refused
unopened_due names options old new OutOfMemory refused out report final = absurd final

unopened_attaches : (names : FlowFiles) (options : FlowOptions) (old new : Slot → SlotView) (outcome : Outcome) → RefusedClassic (old slots.Capture) (new slots.Capture) outcome →
    (new slots.Out).name ≡ None → (new slots.Report).name ≡ None → AttachesDue (asked names options) outcome new
unopened_attaches names options old new (Capture BadMagic) refused out report = (out, report)
unopened_attaches names options old new (Capture BadVersion) refused out report = (out, report)
unopened_attaches names options old new (Capture (BadLink link)) refused out report = (out, report)
unopened_attaches names options old new (Capture CutHead) refused out report = (out, report)
unopened_attaches names options old new (Capture (CutRecord n)) refused out report = absurd refused.0
unopened_attaches names options old new (Capture (FrameTooLong n l)) refused out report = absurd refused.0
unopened_attaches names options old new (Capture TooManyRecords) refused out report = absurd refused.0
unopened_attaches names options old new Done refused out report = absurd refused
unopened_attaches names options old new (Usage fault) refused out report = (out, report)
unopened_attaches names options old new (Policy fault) refused out report = (out, report)
unopened_attaches names options old new (Graph fault) refused out report = (out, report)
unopened_attaches names options old new (CaptureNg fault) refused out report = (out, report)
unopened_attaches names options old new (ReadFault s) refused out report = report
unopened_attaches names options old new (WriteFault s) refused out report = absurd refused
unopened_attaches names options old new OutOfMemory refused out report = report

unopened_reaches : (names : FlowFiles) (options : FlowOptions) (old new : Slot → SlotView) (outcome : Outcome) → RefusedClassic (old slots.Capture) (new slots.Capture) outcome →
    ReachesCapture (asked names options) outcome old
unopened_reaches names options old new (Capture fault) refused = tt
unopened_reaches names options old new Done refused = tt
unopened_reaches names options old new (Usage fault) refused = tt
unopened_reaches names options old new (Policy fault) refused = tt
unopened_reaches names options old new (Graph fault) refused = tt
unopened_reaches names options old new (CaptureNg fault) refused = absurd refused
unopened_reaches names options old new (ReadFault s) refused = tt
unopened_reaches names options old new (WriteFault s) refused = tt
unopened_reaches names options old new OutOfMemory refused = tt

unopened_usage : (old new : SlotView) (outcome : Outcome) (fault : UsageFault) → RefusedClassic old new outcome → outcome ≡ Usage fault → ⊥
unopened_usage old new outcome fault refused is = subst (RefusedClassic old new) is refused

unopened_policy : (old new : SlotView) (outcome : Outcome) (fault : PolicyFault) → RefusedClassic old new outcome → outcome ≡ Policy fault → ⊥
unopened_policy old new outcome fault refused is = subst (RefusedClassic old new) is refused

unopened_graph : (old new : SlotView) (outcome : Outcome) (fault : GraphFault) → RefusedClassic old new outcome → outcome ≡ Graph fault → ⊥
unopened_graph old new outcome fault refused is = subst (RefusedClassic old new) is refused

unopened_write : (old new : SlotView) (outcome : Outcome) (s : Slot) → RefusedClassic old new outcome → outcome ≡ WriteFault s → ⊥
unopened_write old new outcome s refused is = subst (RefusedClassic old new) is refused

unopened_read : (names : FlowFiles) (options : FlowOptions) (old new : Slot → SlotView) (outcome : Outcome) (s : Slot) → RefusedClassic (old slots.Capture) (new slots.Capture) outcome →
    outcome ≡ ReadFault s → ReadFaultCause (asked names options) old new s
unopened_read names options old new outcome s refused is =
    let here : RefusedClassic (old slots.Capture) (new slots.Capture) (ReadFault s) = subst (RefusedClassic (old slots.Capture) (new slots.Capture)) is refused in
    subst (ReadFaultCause (asked names options) old new) (sym here.0) (tt, here.1)

pub unopened : (names : FlowFiles) (options : FlowOptions) (old new : Slot → SlotView) (outcome : Outcome) → RefusedClassic (old slots.Capture) (new slots.Capture) outcome → Stays names old new →
    new slots.Out ≡ old slots.Out → Ran (asked names options) old new (Stopped outcome)
unopened names options old new outcome refused stays same =
    let report : new slots.Report ≡ old slots.Report = stays.others slots.Report report_is_not_out report_is_not_capture in
    let out_untouched : IsUntouched (old slots.Out) (new slots.Out) = untouched_same (old slots.Out) (new slots.Out) (stays.free slots.Out) same in
    let report_untouched : IsUntouched (old slots.Report) (new slots.Report) = untouched_same (old slots.Report) (new slots.Report) (stays.free slots.Report) report in
    record {
      due = λ final. unopened_due names options old new outcome refused out_untouched report_untouched final;
      prefixes = always (old slots.Capture).bytes (λ c. (p g : List ℕ) → LeavesPrefixes (due_of_command (asked names options) p g c).written old new)
          (λ c p g. (untouched_prefix (due_of_flows (capture_of c)).written.out (old slots.Out) (new slots.Out) out_untouched, untouched_prefix (due_of_flows (capture_of c)).written.report (old slots.Report) (new slots.Report) report_untouched));
      within = tt;
      names_are = names_are names options old new stays;
      attached = unopened_attaches names options old new outcome refused (ap (λ v. v.name) same ∙ stays.free slots.Out) (no_report names old new stays);
      report_behind = inl (no_report names old new stays);
      note_stays = note_stays names old new stays;
      usage = λ fault is. absurd (unopened_usage (old slots.Capture) (new slots.Capture) outcome fault refused is);
      usage_always = λ fault is. absurd cc;
      refused = λ fault is. absurd (unopened_policy (old slots.Capture) (new slots.Capture) outcome fault refused is);
      graph_refused = λ fault is. absurd (unopened_graph (old slots.Capture) (new slots.Capture) outcome fault refused is);
      policy = unopened_reaches names options old new outcome refused;
      drained = λ is. absurd (subst (RefusedClassic (old slots.Capture) (new slots.Capture)) is refused);
      read_faults = λ s is. unopened_read names options old new outcome s refused is;
      write_faults = λ s is. absurd (unopened_write (old slots.Capture) (new slots.Capture) outcome s refused is);
      no_note_fault = unopened_write (old slots.Capture) (new slots.Capture) outcome slots.Note refused;
    }

-- ---- the capture was opened

-- what holds for a capture that was opened: its head and body, if the desk shows it, and the slots that stayed until
-- then
pub record Stands (head : CaptureHead) (reader : ReaderState) (old mid : Slot → SlotView) : Type 0 where
  pub whole : IfSome (old slots.Capture).bytes (λ bytes. IsSomeAnd (body_left reader (mid slots.Capture)) (λ body. capture_of bytes ≡ Ok (head, body)))
  pub same_out : mid slots.Out ≡ old slots.Out
  pub same_report : mid slots.Report ≡ old slots.Report
  pub later : (old slots.Capture).faults ≤ (mid slots.Capture).faults

-- what the rest of a body that was read says about the bytes of the capture
said : (unit : TimeUnit) (head : CaptureHead) (left : Option Body) (bytes : List ℕ) (P : Body → Type 0) (Q : Due → Type 0) → IsSomeAnd left (λ body. capture_of bytes ≡ Ok (head, body)) →
    IfSome left P → ((body : Body) → P body → Q (due_of_body head.unit body)) → Q (due_of_flows (capture_of bytes))
said unit head None bytes P Q whole all f = absurd whole
said unit head (Some body) bytes P Q whole all f = subst (λ r. Q (due_of_flows r)) (sym whole) (f body all)

leaves_from : (due : Files) (old mid new : Slot → SlotView) → mid slots.Out ≡ old slots.Out → mid slots.Report ≡ old slots.Report → Leaves due mid new → Leaves due old new
leaves_from due old mid new out report (a, b) = (subst (λ v. LeavesSlot due.out v (new slots.Out)) out a, subst (λ v. LeavesSlot due.report v (new slots.Report)) report b)

prefixes_from : (due : Files) (old mid new : Slot → SlotView) → mid slots.Out ≡ old slots.Out → mid slots.Report ≡ old slots.Report → LeavesPrefixes due mid new → LeavesPrefixes due old new
prefixes_from due old mid new out report (a, b) = (subst (λ v. LeavesPrefix due.out v (new slots.Out)) out a, subst (λ v. LeavesPrefix due.report v (new slots.Report)) report b)

leaves_prefixes : (due : Files) (old new : Slot → SlotView) → Leaves due old new → LeavesPrefixes due old new
leaves_prefixes due old new (a, b) = (slot_prefix due.out (old slots.Out) (new slots.Out) a, slot_prefix due.report (old slots.Report) (new slots.Report) b)

ends_prefixes : (unit : TimeUnit) (body : Body) (old new : Slot → SlotView) (r : Result Ending RunFault) → FlowsEnd unit body old new r → LeavesPrefixes (due_of_body unit body).written old new
ends_prefixes unit body old new (Ok ending) ends = leaves_prefixes (due_of_body unit body).written old new ends.0
ends_prefixes unit body old new (Err fault) ends = ends

pub counted_prefixes : (names : FlowFiles) (options : FlowOptions) (head : CaptureHead) (reader : ReaderState) (old mid new : Slot → SlotView) (r : Result Ending RunFault) →
    Stands head reader old mid → IfSome (body_left reader (mid slots.Capture)) (λ body. FlowsEnd head.unit body mid new r) →
    IfSome (old slots.Capture).bytes (λ c. (p g : List ℕ) → LeavesPrefixes (due_of_command (asked names options) p g c).written old new)
counted_prefixes names options head reader old mid new r stands left =
    each (old slots.Capture).bytes (λ bytes. IsSomeAnd (body_left reader (mid slots.Capture)) (λ body. capture_of bytes ≡ Ok (head, body))) (λ c. (p g : List ℕ) →
    LeavesPrefixes (due_of_command (asked names options) p g c).written old new)
    (λ bytes is p g. said head.unit head (body_left reader (mid slots.Capture)) bytes (λ body. FlowsEnd head.unit body mid new r) (λ due. LeavesPrefixes due.written old new) is left
    (λ body ends. prefixes_from (due_of_body head.unit body).written old mid new stands.same_out stands.same_report (ends_prefixes head.unit body mid new r ends))) stands.whole

ending_answers : (unit : TimeUnit) (body : Body) (f : Option CaptureFault) → outcome_seen (flows_ending (length body.records) (flow_lines unit body.records) f) ≡ outcome_of (option_map Pcap f)
ending_answers unit body None = refl
ending_answers unit body (Some fault) = refl

ending_notes : (unit : TimeUnit) (body : Body) (f : Option CaptureFault) → text_of (flows_ending (length body.records) (flow_lines unit body.records) f) ≡ flows_note unit body f
ending_notes unit body None = refl
ending_notes unit body (Some fault) = refl

body_due : (unit : TimeUnit) (body : Body) (old mid new : Slot → SlotView) (ending : Ending) → mid slots.Out ≡ old slots.Out → mid slots.Report ≡ old slots.Report →
    FlowsEnd unit body mid new (Ok ending) → EndsDue (due_of_body unit body) old new ending
body_due unit body old mid new ending out report (left, is) = record {
  answer = ap outcome_seen is ∙ ending_answers unit body body.fault;
  left = leaves_from (due_of_body unit body).written old mid new out report left;
  note = ap text_of is ∙ ending_notes unit body body.fault;
}

counted_due : (names : FlowFiles) (options : FlowOptions) (head : CaptureHead) (reader : ReaderState) (old mid new : Slot → SlotView) (ending : Ending) → Stands head reader old mid →
    IfSome (body_left reader (mid slots.Capture)) (λ body. FlowsEnd head.unit body mid new (Ok ending)) →
    IfSome (old slots.Capture).bytes (λ c. (p g : List ℕ) → EndsDue (due_of_command (asked names options) p g c) old new ending)
counted_due names options head reader old mid new ending stands left =
    each (old slots.Capture).bytes (λ bytes. IsSomeAnd (body_left reader (mid slots.Capture)) (λ body. capture_of bytes ≡ Ok (head, body))) (λ c. (p g : List ℕ) →
    EndsDue (due_of_command (asked names options) p g c) old new ending)
    (λ bytes is p g. said head.unit head (body_left reader (mid slots.Capture)) bytes (λ body. FlowsEnd head.unit body mid new (Ok ending)) (λ due. EndsDue due old new ending) is left
    (λ body ends. body_due head.unit body old mid new ending stands.same_out stands.same_report ends)) stands.whole

told_within : (ending : Ending) → FlowsEndTold ending → CountsWithin ending
told_within (Shown text) told = tt
told_within (Stopped outcome) told = tt
told_within (Refused refusal) told = absurd told
told_within (GraphRefused refusal) told = absurd told
told_within (Completed totals) told = absurd told

told_attaches : (names : FlowFiles) (options : FlowOptions) (new : Slot → SlotView) (ending : Ending) → FlowsEndTold ending → IsSome (new slots.Out).name → (new slots.Report).name ≡ None →
    AttachesDue (asked names options) (outcome_seen ending) new
told_attaches names options new (Shown text) told out report = (out, report)
told_attaches names options new (Stopped (Capture BadMagic)) told out report = absurd (told tt)
told_attaches names options new (Stopped (Capture BadVersion)) told out report = absurd (told tt)
told_attaches names options new (Stopped (Capture (BadLink link))) told out report = absurd (told tt)
told_attaches names options new (Stopped (Capture CutHead)) told out report = absurd (told tt)
told_attaches names options new (Stopped (Capture (CutRecord n))) told out report = (out, report)
told_attaches names options new (Stopped (Capture (FrameTooLong n l))) told out report = (out, report)
told_attaches names options new (Stopped (Capture TooManyRecords)) told out report = (out, report)
told_attaches names options new (Stopped Done) told out report = absurd told
told_attaches names options new (Stopped (Usage fault)) told out report = absurd told
told_attaches names options new (Stopped (Policy fault)) told out report = absurd told
told_attaches names options new (Stopped (Graph fault)) told out report = absurd told
told_attaches names options new (Stopped (CaptureNg fault)) told out report = absurd told
told_attaches names options new (Stopped (ReadFault s)) told out report = absurd told
told_attaches names options new (Stopped (WriteFault s)) told out report = absurd told
told_attaches names options new (Stopped OutOfMemory) told out report = absurd told
told_attaches names options new (Refused refusal) told out report = absurd told
told_attaches names options new (GraphRefused refusal) told out report = absurd told
told_attaches names options new (Completed totals) told out report = absurd told

-- the outcome of work with an answer is Done or a fault of the capture
abbrev IsCounted : Outcome → Type 0
IsCounted Done = Unit {0}
IsCounted (Capture fault) = Unit {0}
IsCounted outcome = ⊥

told_counted : (ending : Ending) → FlowsEndTold ending → IsCounted (outcome_seen ending)
told_counted (Shown text) told = tt
told_counted (Stopped (Capture fault)) told = tt
told_counted (Stopped Done) told = absurd told
told_counted (Stopped (Usage fault)) told = absurd told
told_counted (Stopped (Policy fault)) told = absurd told
told_counted (Stopped (Graph fault)) told = absurd told
told_counted (Stopped (CaptureNg fault)) told = absurd told
told_counted (Stopped (ReadFault s)) told = absurd told
told_counted (Stopped (WriteFault s)) told = absurd told
told_counted (Stopped OutOfMemory) told = absurd told
told_counted (Refused refusal) told = absurd told
told_counted (GraphRefused refusal) told = absurd told
told_counted (Completed totals) told = absurd told

counted_reaches : (names : FlowFiles) (options : FlowOptions) (old : Slot → SlotView) (outcome : Outcome) → IsCounted outcome → ReachesCapture (asked names options) outcome old
counted_reaches names options old Done is = tt
counted_reaches names options old (Capture fault) is = tt
counted_reaches names options old (Usage fault) is = absurd is
counted_reaches names options old (Policy fault) is = absurd is
counted_reaches names options old (Graph fault) is = absurd is
counted_reaches names options old (CaptureNg fault) is = absurd is
counted_reaches names options old (ReadFault s) is = absurd is
counted_reaches names options old (WriteFault s) is = absurd is
counted_reaches names options old OutOfMemory is = absurd is

pub exported : (names : FlowFiles) (options : FlowOptions) (head : CaptureHead) (reader : ReaderState) (old mid new : Slot → SlotView) (ending : Ending) → Stands head reader old mid →
    Stays names old new → FlowsEndTold ending → IsSome (new slots.Out).name →
    (outcome_seen ending ≡ Done → IsReadWhole (new slots.Capture)) → IfSome (body_left reader (mid slots.Capture)) (λ body. FlowsEnd head.unit body mid new (Ok ending)) →
    Ran (asked names options) old new ending
exported names options head reader old mid new ending stands stays told out drained left =
    let counted : IsCounted (outcome_seen ending) = told_counted ending told in
    record {
      due = λ final. counted_due names options head reader old mid new ending stands left;
      prefixes = counted_prefixes names options head reader old mid new (Ok ending) stands left;
      within = told_within ending told;
      names_are = names_are names options old new stays;
      attached = told_attaches names options new ending told out (no_report names old new stays);
      report_behind = inl (no_report names old new stays);
      note_stays = note_stays names old new stays;
      usage = λ fault is. absurd (subst IsCounted is counted);
      usage_always = λ fault is. absurd cc;
      refused = λ fault is. absurd (subst IsCounted is counted);
      graph_refused = λ fault is. absurd (subst IsCounted is counted);
      policy = counted_reaches names options old (outcome_seen ending) counted;
      drained = drained;
      read_faults = λ s is. absurd (subst IsCounted is counted);
      write_faults = λ s is. absurd (subst IsCounted is counted);
      no_note_fault = λ is. subst IsCounted is counted;
    }

-- ---- it was broken off

pub risen_from : (a b c : ℕ) → a ≤ b → IsRisen b c → IsRisen a c
risen_from a b c later (inl less) = inl (omega (arith, later, less))
risen_from a b c later (inr end) = inr end

has_head : (o : Option (List ℕ)) (head : CaptureHead) (left : Option Body) → IfSome o (λ bytes. IsSomeAnd left (λ body. capture_of bytes ≡ Ok (head, body))) →
    IfSome o (λ bytes. IsOk (capture_of bytes))
has_head None head left whole = tt
has_head (Some bytes) head None whole = absurd whole
has_head (Some bytes) head (Some body) whole = subst IsOk (sym whole) (good (head, body))
  where
    good : (x : CaptureHead × Body) → IsOk {T = CaptureHead × Body} {E = CaptureFault} (Ok x)
    good x = search rules

broken_read : (names : FlowFiles) (options : FlowOptions) (old mid new : Slot → SlotView) (fault : RunFault) (s : Slot) → (old slots.Capture).faults ≤ (mid slots.Capture).faults →
    FlowsBroken mid new fault → broken_by fault ≡ ReadFault s → ReadFaultCause (asked names options) old new s
broken_read names options old mid new faults.ReadFault s later cause is =
    subst (ReadFaultCause (asked names options) old new) (ap read_slot is) (tt, risen_from (old slots.Capture).faults (mid slots.Capture).faults (new slots.Capture).faults later cause)
broken_read names options old mid new (faults.WriteFault t) s later cause is = absurd cc
broken_read names options old mid new faults.OutOfMemory s later cause is = absurd cc

broken_write : (names : FlowFiles) (options : FlowOptions) (head : CaptureHead) (reader : ReaderState) (old mid new : Slot → SlotView) (fault : RunFault) (s : Slot) → Stands head reader old mid →
    FlowsBroken mid new fault → broken_by fault ≡ WriteFault s → WriteFaultCause (asked names options) old new s
broken_write names options head reader old mid new faults.ReadFault s stands cause is = absurd cc
broken_write names options head reader old mid new faults.OutOfMemory s stands cause is = absurd cc
broken_write names options head reader old mid new (faults.WriteFault slots.Out) s stands cause is =
    subst (WriteFaultCause (asked names options) old new) (ap write_slot is) (has_head (old slots.Capture).bytes head (body_left reader (mid slots.Capture)) stands.whole, subst (λ v. IsRisen v.faults (new slots.Out).faults) stands.same_out cause)
broken_write names options head reader old mid new (faults.WriteFault slots.Policy) s stands cause is = absurd cause
broken_write names options head reader old mid new (faults.WriteFault slots.Capture) s stands cause is = absurd cause
broken_write names options head reader old mid new (faults.WriteFault slots.Report) s stands cause is = absurd cause
broken_write names options head reader old mid new (faults.WriteFault slots.Note) s stands cause is = absurd cause
broken_write names options head reader old mid new (faults.WriteFault slots.Graph) s stands cause is = absurd cause

broken_attaches : (names : FlowFiles) (options : FlowOptions) (mid new : Slot → SlotView) (fault : RunFault) → FlowsBroken mid new fault → (new slots.Report).name ≡ None →
    AttachesDue (asked names options) (broken_by fault) new
broken_attaches names options mid new faults.ReadFault cause report = report
broken_attaches names options mid new faults.OutOfMemory cause report = report
broken_attaches names options mid new (faults.WriteFault slots.Out) cause report = report
broken_attaches names options mid new (faults.WriteFault slots.Policy) cause report = absurd cause
broken_attaches names options mid new (faults.WriteFault slots.Capture) cause report = absurd cause
broken_attaches names options mid new (faults.WriteFault slots.Report) cause report = absurd cause
broken_attaches names options mid new (faults.WriteFault slots.Note) cause report = absurd cause
broken_attaches names options mid new (faults.WriteFault slots.Graph) cause report = absurd cause

-- the outcome of work that was broken off is a fault of a slot other than Note, or out of memory
abbrev IsCutOff : Outcome → Type 0
IsCutOff (ReadFault s) = Unit {0}
IsCutOff (WriteFault slots.Out) = Unit {0}
IsCutOff OutOfMemory = Unit {0}
IsCutOff outcome = ⊥

cut_off : (mid new : Slot → SlotView) (fault : RunFault) → FlowsBroken mid new fault → IsCutOff (broken_by fault)
cut_off mid new faults.ReadFault cause = tt
cut_off mid new faults.OutOfMemory cause = tt
cut_off mid new (faults.WriteFault slots.Out) cause = tt
cut_off mid new (faults.WriteFault slots.Policy) cause = absurd cause
cut_off mid new (faults.WriteFault slots.Capture) cause = absurd cause
cut_off mid new (faults.WriteFault slots.Report) cause = absurd cause
cut_off mid new (faults.WriteFault slots.Note) cause = absurd cause
cut_off mid new (faults.WriteFault slots.Graph) cause = absurd cause

cut_reaches : (names : FlowFiles) (options : FlowOptions) (old : Slot → SlotView) (fault : RunFault) → ReachesCapture (asked names options) (broken_by fault) old
cut_reaches names options old faults.ReadFault = tt
cut_reaches names options old (faults.WriteFault s) = tt
cut_reaches names options old faults.OutOfMemory = tt

not_final : (fault : RunFault) → ¬ IsFinal (broken_by fault)
not_final faults.ReadFault final = final
not_final (faults.WriteFault s) final = final
not_final faults.OutOfMemory final = final

pub broken : (names : FlowFiles) (options : FlowOptions) (head : CaptureHead) (reader : ReaderState) (old mid new : Slot → SlotView) (fault : RunFault) → Stands head reader old mid →
    Stays names old new → FlowsBroken mid new fault →
    IfSome (body_left reader (mid slots.Capture)) (λ body. FlowsEnd head.unit body mid new (Err fault)) → Ran (asked names options) old new (Stopped (broken_by fault))
broken names options head reader old mid new fault stands stays cause left =
    let cut : IsCutOff (broken_by fault) = cut_off mid new fault cause in
    record {
      due = λ final. absurd (not_final fault final);
      prefixes = counted_prefixes names options head reader old mid new (Err fault) stands left;
      within = tt;
      names_are = names_are names options old new stays;
      attached = broken_attaches names options mid new fault cause (no_report names old new stays);
      report_behind = inl (no_report names old new stays);
      note_stays = note_stays names old new stays;
      usage = λ f is. absurd (subst IsCutOff is cut);
      usage_always = λ f is. absurd cc;
      refused = λ f is. absurd (subst IsCutOff is cut);
      graph_refused = λ f is. absurd (subst IsCutOff is cut);
      policy = cut_reaches names options old fault;
      drained = λ is. absurd (subst IsCutOff is cut);
      read_faults = λ s is. broken_read names options old mid new fault s stands.later cause is;
      write_faults = λ s is. broken_write names options head reader old mid new fault s stands cause is;
      no_note_fault = λ is. subst IsCutOff is cut;
    }
