-- The names of the slots, whether Report is attached, and the causes of an outcome, after the line was put into Note.
use Rattle.std.proofs.Common.{◌≡◌, ◌≢◌, ◌⊎◌, ◌∙◌, inl, inr, ℕ, List, refl, ap, sym, subst}
use Rattle.std.specs.Prelude.{None, Result, Ok, Err}
use Rattle.nfp_outside.specs.declared.slot.Slot.{Slot}
use Rattle.nfp_outside.specs.declared.slot.Slot.TheVariants as slots
use Rattle.nfp_outside.specs.Outside.{SlotView, IsRisen}
use Rattle.policy_judge.specs.declared.fault.PolicyFault.{PolicyFault}
use Rattle.command_words.specs.WhyWords.{WhyAsked}
use Rattle.command_words.specs.declared.usage.UsageFault.{UsageFault}
use Rattle.call_ending.specs.Endings.{NotesLine, untold}
use Rattle.call_ending.specs.Told.{IsReadWhole}
use Rattle.call_ending.specs.declared.outcome.Outcome.{Outcome}
use Rattle.call_ending.specs.declared.outcome.Outcome.TheVariants.{Done, Usage, Policy, Graph, Capture, CaptureNg, ReadFault, WriteFault, OutOfMemory}
use Rattle.why_call.specs.Answers.{AttachesDue, HasNames, IsDue, PolicyCause, ReachesCapture, ReadFaultCause, ReadsToEnd, ReportAttaches, WhereRead, WriteFaultCause, name_of}
use Rattle.why_call.specs.Due.{due_of_why}
use Rattle.why_call.specs.Ran.{Called}
use Rattle.why_call.proofs.CallAnswers.{called_done, seen_before, untold_done}
use Rattle.why_call.proofs.OtherSlots.{capture_beside, policy_beside, report_beside}

report_untold : (outcome : Outcome) (report : SlotView) → ReportAttaches outcome report → ReportAttaches (untold outcome) report
report_untold Done report h = h
report_untold (Usage fault) report h = h
report_untold (Policy fault) report h = h
report_untold (Graph fault) report h = h
report_untold (Capture fault) report h = h
report_untold (CaptureNg fault) report h = h
report_untold (ReadFault s) report h = h
report_untold (WriteFault s) report h = h
report_untold OutOfMemory report h = h

attaches_untold : (asked : Result WhyAsked UsageFault) (outcome : Outcome) (report : SlotView) → AttachesDue asked outcome report → AttachesDue asked (untold outcome) report
attaches_untold (Ok asked) outcome report h = report_untold outcome report h
attaches_untold (Err fault) outcome report h = h

attaches_unmade : (asked : Result WhyAsked UsageFault) (outcome : Outcome) (report : SlotView) → AttachesDue asked outcome report → AttachesDue asked OutOfMemory report
attaches_unmade (Ok asked) outcome report h = tt
attaches_unmade (Err fault) outcome report h = h

pub called_attached : (asked : Result WhyAsked UsageFault) (old mid new : Slot → SlotView) (outcome : Outcome) (line : List ℕ) (result : Outcome) → Called asked old mid new outcome line result →
    AttachesDue asked result (new slots.Report)
called_attached asked old mid new outcome line result called = by_notes called.notes
  where
    here : AttachesDue asked outcome (new slots.Report)
    here = subst (AttachesDue asked outcome) (sym (called.beside slots.Report report_beside)) called.ran.attached

    by_notes : NotesLine outcome line (mid slots.Note) (new slots.Note) result → AttachesDue asked result (new slots.Report)
    by_notes (inl (is, a)) = subst (λ o. AttachesDue asked o (new slots.Report)) (sym is) here
    by_notes (inr (inl (is, a))) = subst (λ o. AttachesDue asked o (new slots.Report)) (sym is) (attaches_unmade asked outcome (new slots.Report) here)
    by_notes (inr (inr (is, r, a))) = subst (λ o. AttachesDue asked o (new slots.Report)) (sym is) (attaches_untold asked outcome (new slots.Report) here)

reaches_untold : (asked : Result WhyAsked UsageFault) (outcome : Outcome) (old : Slot → SlotView) → ReachesCapture asked outcome old → ReachesCapture asked (untold outcome) old
reaches_untold asked Done old h = tt
reaches_untold asked (Usage fault) old h = h
reaches_untold asked (Policy fault) old h = h
reaches_untold asked (Graph fault) old h = h
reaches_untold asked (Capture fault) old h = h
reaches_untold asked (CaptureNg fault) old h = h
reaches_untold asked (ReadFault s) old h = h
reaches_untold asked (WriteFault s) old h = h
reaches_untold asked OutOfMemory old h = h

pub called_policy : (asked : Result WhyAsked UsageFault) (old mid new : Slot → SlotView) (outcome : Outcome) (line : List ℕ) (result : Outcome) → Called asked old mid new outcome line result →
    ReachesCapture asked result old
called_policy asked old mid new outcome line result called = by_notes called.notes
  where
    by_notes : NotesLine outcome line (mid slots.Note) (new slots.Note) result → ReachesCapture asked result old
    by_notes (inl (is, a)) = subst (λ o. ReachesCapture asked o old) (sym is) called.ran.policy
    by_notes (inr (inl (is, a))) = subst (λ o. ReachesCapture asked o old) (sym is) tt
    by_notes (inr (inr (is, r, a))) = subst (λ o. ReachesCapture asked o old) (sym is) (reaches_untold asked outcome old called.ran.policy)

note_name : (outcome : Outcome) (line : List ℕ) (old new : SlotView) (result : Outcome) → NotesLine outcome line old new result → new.name ≡ old.name
note_name outcome line old new result (inl (is, a)) = a.same_name
note_name outcome line old new result (inr (inl (is, a))) = a.appended.same_name
note_name outcome line old new result (inr (inr (is, r, a))) = a.appended.same_name

pub called_names : (asked : Result WhyAsked UsageFault) (old mid new : Slot → SlotView) (outcome : Outcome) (line : List ℕ) (result : Outcome) → Called asked old mid new outcome line result →
    HasNames asked new
called_names asked old mid new outcome line result called = go asked called.ran.names_are
  where
    same : (s : Slot) → (new s).name ≡ (mid s).name
    same slots.Policy = ap (λ v. v.name) (called.beside slots.Policy policy_beside)
    same slots.Capture = ap (λ v. v.name) (called.beside slots.Capture capture_beside)
    same slots.Graph = ap (λ v. v.name) (called.beside slots.Graph (λ h. cc))
    same slots.Out = ap (λ v. v.name) (called.beside slots.Out (λ h. cc))
    same slots.Report = ap (λ v. v.name) (called.beside slots.Report report_beside)
    same slots.Note = note_name outcome line (mid slots.Note) (new slots.Note) result called.notes

    one : (n : WhyAsked) (s : Slot) → ((mid s).name ≡ None) ⊎ ((mid s).name ≡ name_of n.files s) → ((new s).name ≡ None) ⊎ ((new s).name ≡ name_of n.files s)
    one n s (inl h) = inl (same s ∙ h)
    one n s (inr h) = inr (same s ∙ h)

    go : (n : Result WhyAsked UsageFault) → HasNames n mid → HasNames n new
    go (Err fault) h = λ s. same s ∙ h s
    go (Ok n) h = λ s. one n s (h s)

pub called_usage : (asked : Result WhyAsked UsageFault) (old mid new : Slot → SlotView) (outcome : Outcome) (line : List ℕ) (result : Outcome) → Called asked old mid new outcome line result →
    (fault : UsageFault) → result ≡ Usage fault → asked ≡ Err fault
called_usage asked old mid new outcome line result called fault e = called.ran.usage fault
    (seen_before outcome line (mid slots.Note) (new slots.Note) result (Usage fault) called.notes e (λ h. cc) (λ h. cc))

pub called_usage_always : (asked : Result WhyAsked UsageFault) (old mid new : Slot → SlotView) (outcome : Outcome) (line : List ℕ) (result : Outcome) → Called asked old mid new outcome line result →
    (fault : UsageFault) → asked ≡ Err fault → (result ≡ Usage fault) ⊎ (result ≡ OutOfMemory)
called_usage_always asked old mid new outcome line result called fault e = by_notes called.notes
  where
    seen : (outcome ≡ Usage fault) ⊎ (outcome ≡ OutOfMemory)
    seen = called.ran.usage_always fault e

    by_notes : NotesLine outcome line (mid slots.Note) (new slots.Note) result → (result ≡ Usage fault) ⊎ (result ≡ OutOfMemory)
    by_notes (inl (is, a)) = elim seen [ inl u ↦ inl (is ∙ u) | inr m ↦ inr (is ∙ m) ]
    by_notes (inr (inl (is, a))) = inr is
    by_notes (inr (inr (is, r, a))) = elim seen [ inl u ↦ inl (is ∙ ap untold u) | inr m ↦ inr (is ∙ ap untold m) ]

pub called_read_whole : (asked : Result WhyAsked UsageFault) (old mid new : Slot → SlotView) (outcome : Outcome) (line : List ℕ) (result : Outcome) → Called asked old mid new outcome line result →
    result ≡ Done → ReadsToEnd new
called_read_whole asked old mid new outcome line result called e =
    let whole = called.ran.drained (seen_before outcome line (mid slots.Note) (new slots.Note) result Done called.notes e (λ h. cc) (λ h. cc)) in
    (subst IsReadWhole (sym (called.beside slots.Policy policy_beside)) whole.0, subst IsReadWhole (sym (called.beside slots.Capture capture_beside)) whole.1)

capture_name : (mid new : Slot → SlotView) → new slots.Capture ≡ mid slots.Capture → (mid slots.Capture).name ≡ None → (new slots.Capture).name ≡ None
capture_name mid new p h = ap (λ v. v.name) p ∙ h

pub called_refused : (asked : Result WhyAsked UsageFault) (old mid new : Slot → SlotView) (outcome : Outcome) (line : List ℕ) (result : Outcome) → Called asked old mid new outcome line result →
    (fault : PolicyFault) → result ≡ Policy fault → PolicyCause asked old new fault
called_refused asked old mid new outcome line result called fault e =
    let cause = called.ran.refused fault (seen_before outcome line (mid slots.Note) (new slots.Note) result (Policy fault) called.notes e (λ h. cc) (λ h. cc)) in
    (cause.0, cause.1, capture_name mid new (called.beside slots.Capture capture_beside) cause.2)

read_to : (asked : Result WhyAsked UsageFault) (old mid new : Slot → SlotView) (s : Slot) → ((x : Slot) → x ≢ slots.Note → new x ≡ mid x) → ReadFaultCause asked old mid s →
    ReadFaultCause asked old new s
read_to asked old mid new slots.Policy beside h =
    (h.0, subst (λ v. IsRisen (old slots.Policy).faults v.faults) (sym (beside slots.Policy policy_beside)) h.1, capture_name mid new (beside slots.Capture capture_beside) h.2)
read_to asked old mid new slots.Capture beside h = (h.0, subst (λ v. IsRisen (old slots.Capture).faults v.faults) (sym (beside slots.Capture capture_beside)) h.1)
read_to asked old mid new slots.Out beside h = h
read_to asked old mid new slots.Report beside h = h
read_to asked old mid new slots.Note beside h = h
read_to asked old mid new slots.Graph beside h = h

pub called_read_faults : (asked : Result WhyAsked UsageFault) (old mid new : Slot → SlotView) (outcome : Outcome) (line : List ℕ) (result : Outcome) → Called asked old mid new outcome line result →
    (s : Slot) → result ≡ ReadFault s → ReadFaultCause asked old new s
called_read_faults asked old mid new outcome line result called s e = read_to asked old mid new s called.beside
    (called.ran.read_faults s (seen_before outcome line (mid slots.Note) (new slots.Note) result (ReadFault s) called.notes e (λ h. cc) (λ h. cc)))

write_to : (asked : Result WhyAsked UsageFault) (old mid new : Slot → SlotView) (s : Slot) → s ≢ slots.Note → ((x : Slot) → x ≢ slots.Note → new x ≡ mid x) → WriteFaultCause asked old mid s →
    WriteFaultCause asked old new s
write_to asked old mid new slots.Report other beside h = (h.0, subst (λ v. IsRisen (old slots.Report).faults v.faults) (sym (beside slots.Report report_beside)) h.1)
write_to asked old mid new slots.Note other beside h = absurd (other refl)
write_to asked old mid new slots.Out other beside h = h
write_to asked old mid new slots.Policy other beside h = h
write_to asked old mid new slots.Capture other beside h = h
write_to asked old mid new slots.Graph other beside h = h

-- a fault of Note, which wasn't touched before
note_cause : (asked : Result WhyAsked UsageFault) (old mid new : Slot → SlotView) (outcome : Outcome) (line : List ℕ) (result : Outcome) → Called asked old mid new outcome line result →
    result ≡ WriteFault slots.Note → (outcome ≡ Done) × IsRisen (old slots.Note).faults (new slots.Note).faults
note_cause asked old mid new outcome line result called e = by_notes called.notes
  where
    by_notes : NotesLine outcome line (mid slots.Note) (new slots.Note) result → (outcome ≡ Done) × IsRisen (old slots.Note).faults (new slots.Note).faults
    by_notes (inl (is, a)) = absurd (called.ran.no_note_fault (sym is ∙ e))
    by_notes (inr (inl (is, a))) = let h : OutOfMemory ≡ WriteFault slots.Note = sym is ∙ e in absurd cc
    by_notes (inr (inr (is, r, a))) = (untold_done outcome (sym is ∙ e) called.ran.no_note_fault, subst (λ v. IsRisen v.faults (new slots.Note).faults) called.ran.note_stays r)

is_note : (s : Slot) → (s ≡ slots.Note) ⊎ (s ≢ slots.Note)
is_note slots.Note = inl refl
is_note slots.Policy = inr (λ h. cc)
is_note slots.Capture = inr (λ h. cc)
is_note slots.Out = inr (λ h. cc)
is_note slots.Report = inr (λ h. cc)
is_note slots.Graph = inr (λ h. cc)

same_slot : (a c : Slot) → WriteFault a ≡ WriteFault c → a ≡ c
same_slot a c x = cc

pub called_write_faults : (asked : Result WhyAsked UsageFault) (old mid new : Slot → SlotView) (outcome : Outcome) (line : List ℕ) (result : Outcome) → Called asked old mid new outcome line result →
    (s : Slot) → result ≡ WriteFault s → WriteFaultCause asked old new s
called_write_faults asked old mid new outcome line result called s e = go (is_note s)
  where
    go : (s ≡ slots.Note) ⊎ (s ≢ slots.Note) → WriteFaultCause asked old new s
    go (inl is) =
        let cause = note_cause asked old mid new outcome line result called (e ∙ ap WriteFault is) in
        subst (WriteFaultCause asked old new) (sym is) (subst (λ o. ReachesCapture asked o old) cause.0 called.ran.policy, cause.1)
    go (inr other) = write_to asked old mid new s other called.beside
        (called.ran.write_faults s (seen_before outcome line (mid slots.Note) (new slots.Note) result (WriteFault s) called.notes e (λ h. cc) (λ h. other (same_slot s slots.Note h))))

pub called_note_fault : (asked : Result WhyAsked UsageFault) (old mid new : Slot → SlotView) (outcome : Outcome) (line : List ℕ) (result : Outcome) → Called asked old mid new outcome line result →
    result ≡ WriteFault slots.Note → WhereRead asked old (λ p c. IsDue (due_of_why asked p c) old new Done)
called_note_fault asked old mid new outcome line result called e =
    called_done asked old mid new outcome line result called (note_cause asked old mid new outcome line result called e).0
