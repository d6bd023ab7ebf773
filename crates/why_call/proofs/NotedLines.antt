-- What Note holds if the work was done, and if it ran out of memory.
use Rattle.std.proofs.Common.{◌≡◌, ◌≢◌, ◌⊎◌, ◌∙◌, inl, inr, ℕ, List, [], ◌∷◌, ◌++◌, refl, ap, sym, subst}
use Rattle.std.specs.Prelude.{Result}
use Rattle.nfp_outside.specs.declared.slot.Slot.{Slot}
use Rattle.nfp_outside.specs.declared.slot.Slot.TheVariants as slots
use Rattle.nfp_outside.specs.Outside.{SlotView, IsRisen, Appends, AppendsPrefix}
use Rattle.nfp_outside.specs.Adding.{prefix_whole}
use Rattle.command_words.specs.WhyWords.{WhyAsked}
use Rattle.command_words.specs.declared.usage.UsageFault.{UsageFault}
use Rattle.call_ending.specs.Endings.{NotesLine, untold}
use Rattle.call_ending.specs.Left.{IsFinal, LeavesSlot, NoneRose}
use Rattle.call_ending.specs.Notes.{read_fault_text, write_fault_text}
use Rattle.call_ending.specs.declared.outcome.Outcome.{Outcome}
use Rattle.call_ending.specs.declared.outcome.Outcome.TheVariants.{Done, Usage, Policy, Graph, Capture, CaptureNg, ReadFault, WriteFault, OutOfMemory}
use Rattle.why_call.specs.Answers.{NotesPrefix, WhereRead}
use Rattle.why_call.specs.Due.{WhyDue, due_of_why}
use Rattle.why_call.specs.Ran.{Called, Ran}
use Rattle.why_call.proofs.CallAnswers.{risen_reading, risen_writing, whole_here}
use Rattle.why_call.proofs.OtherSlots.{report_beside}
use Rattle.why_call.proofs.ReadBytes.{if_read, read_always}

untold_is_not_done : (outcome : Outcome) → untold outcome ≢ Done
untold_is_not_done Done e = cc
untold_is_not_done (Usage fault) e = cc
untold_is_not_done (Policy fault) e = cc
untold_is_not_done (Graph fault) e = cc
untold_is_not_done (Capture fault) e = cc
untold_is_not_done (CaptureNg fault) e = cc
untold_is_not_done (ReadFault s) e = cc
untold_is_not_done (WriteFault s) e = cc
untold_is_not_done OutOfMemory e = cc

pub called_done_noted : (asked : Result WhyAsked UsageFault) (old mid new : Slot → SlotView) (outcome : Outcome) (line : List ℕ) (result : Outcome) → Called asked old mid new outcome line result →
    result ≡ Done →
    WhereRead asked old (λ p c. Appends (due_of_why asked p c).note (old slots.Note) (new slots.Note))
called_done_noted asked old mid new outcome line result called done = by_notes called.notes
  where
    by_notes : NotesLine outcome line (mid slots.Note) (new slots.Note) result → WhereRead asked old (λ p c. Appends (due_of_why asked p c).note (old slots.Note) (new slots.Note))
    by_notes (inl (is, a)) = if_read asked old _ _
        (λ p c ends. whole_here line (due_of_why asked p c).note (old slots.Note) (mid slots.Note) (new slots.Note) called.ran.note_stays ends.note a)
        (called.ran.due (subst IsFinal (sym (sym is ∙ done)) tt))
    by_notes (inr (inl (is, a))) = absurd cc
    by_notes (inr (inr (is, r, a))) = absurd (untold_is_not_done outcome (sym is ∙ done))

-- The line for an end: the one that is due, after all that is due was put; the line of a fault of a slot whose count rose;
-- or nothing.
abbrev IsTold : (Slot → SlotView) → (Slot → SlotView) → WhyDue → List ℕ → Type 0
IsTold old mid due line =
    ((line ≡ due.note) × LeavesSlot due.report (old slots.Report) (mid slots.Report))
    ⊎ ((s : Slot) × (s ≢ slots.Note) × IsRisen (old s).faults (mid s).faults × (line ≡ read_fault_text s))
    ⊎ ((s : Slot) × (s ≢ slots.Note) × IsRisen (old s).faults (mid s).faults × (line ≡ write_fault_text s))
    ⊎ (line ≡ [])

due_told : (asked : Result WhyAsked UsageFault) (old mid : Slot → SlotView) (outcome : Outcome) (line : List ℕ) → Ran asked old mid outcome line → IsFinal outcome →
    WhereRead asked old (λ p c. IsTold old mid (due_of_why asked p c) line)
due_told asked old mid outcome line ran final = if_read asked old _ _ (λ p c ends. inl (ends.note, ends.left)) (ran.due final)

told_text : (asked : Result WhyAsked UsageFault) (old mid : Slot → SlotView) (outcome : Outcome) (line : List ℕ) → Ran asked old mid outcome line →
    WhereRead asked old (λ p c. IsTold old mid (due_of_why asked p c) line)
told_text asked old mid Done line ran = due_told asked old mid Done line ran tt
told_text asked old mid (Usage fault) line ran = due_told asked old mid (Usage fault) line ran tt
told_text asked old mid (Policy fault) line ran = due_told asked old mid (Policy fault) line ran tt
told_text asked old mid (Graph fault) line ran = due_told asked old mid (Graph fault) line ran tt
told_text asked old mid (Capture fault) line ran = due_told asked old mid (Capture fault) line ran tt
told_text asked old mid (CaptureNg fault) line ran = due_told asked old mid (CaptureNg fault) line ran tt
told_text asked old mid (ReadFault s) line ran =
    let risen = risen_reading asked old mid s (ran.read_faults s refl) in
    read_always asked old _ (λ p c. inr (inl (s, risen.0, risen.1, ran.fault_line)))
told_text asked old mid (WriteFault s) line ran =
    let risen = risen_writing asked old mid s (λ e. ran.no_note_fault (ap WriteFault e)) (ran.write_faults s refl) in
    read_always asked old _ (λ p c. inr (inr (inl (s, risen.0, risen.1, ran.fault_line))))
told_text asked old mid OutOfMemory line ran = read_always asked old _ (λ p c. inr (inr (inr ran.fault_line)))

nothing_in_front : (done rest : List ℕ) → [] ≡ done ++ rest → done ≡ []
nothing_in_front [] rest e = refl
nothing_in_front (b ∷ done) rest e = absurd cc

nothing_before : (old new : SlotView) → AppendsPrefix [] old new → Appends [] old new
nothing_before old new a = subst (λ d. Appends d old new) (nothing_in_front a.done a.rest a.parts) a.appended

-- the slots beside Note, and Note before its line, are those in the middle
prefix_told : (due : WhyDue) (line : List ℕ) (old mid new : Slot → SlotView) → mid slots.Note ≡ old slots.Note → ((s : Slot) → s ≢ slots.Note → new s ≡ mid s) → IsTold old mid due line →
    AppendsPrefix line (mid slots.Note) (new slots.Note) →
    NotesPrefix due old new
prefix_told due line old mid new stays beside told a = by told
  where
    put : (text : List ℕ) → line ≡ text → AppendsPrefix text (old slots.Note) (new slots.Note)
    put text e = subst (λ v. AppendsPrefix text v (new slots.Note)) stays (subst (λ t. AppendsPrefix t (mid slots.Note) (new slots.Note)) e a)

    still : (s : Slot) → s ≢ slots.Note → IsRisen (old s).faults (mid s).faults → IsRisen (old s).faults (new s).faults
    still s other h = subst (λ v. IsRisen (old s).faults v.faults) (sym (beside s other)) h

    by : IsTold old mid due line → NotesPrefix due old new
    by (inl (e, left)) = inl (put due.note e, subst (LeavesSlot due.report (old slots.Report)) (sym (beside slots.Report report_beside)) left)
    by (inr (inl (s, other, h, e))) = inr (inl (s, still s other h, put (read_fault_text s) e))
    by (inr (inr (inl (s, other, h, e)))) = inr (inr (inl (s, still s other h, put (write_fault_text s) e)))
    by (inr (inr (inr e))) = inr (inr (inr (nothing_before (old slots.Note) (new slots.Note) (put [] e))))

pub called_noted_short : (asked : Result WhyAsked UsageFault) (old mid new : Slot → SlotView) (outcome : Outcome) (line : List ℕ) (result : Outcome) → Called asked old mid new outcome line result →
    result ≡ OutOfMemory →
    WhereRead asked old (λ p c. NotesPrefix (due_of_why asked p c) old new)
called_noted_short asked old mid new outcome line result called short = if_read asked old _ _
    (λ p c told. prefix_told (due_of_why asked p c) line old mid new called.ran.note_stays called.beside told (by_notes called.notes))
    (told_text asked old mid outcome line called.ran)
  where
    by_notes : NotesLine outcome line (mid slots.Note) (new slots.Note) result → AppendsPrefix line (mid slots.Note) (new slots.Note)
    by_notes (inl (is, a)) = prefix_whole line (mid slots.Note) (new slots.Note) a
    by_notes (inr (inl (is, a))) = a
    by_notes (inr (inr (is, r, a))) = a

pub called_noted_late : (asked : Result WhyAsked UsageFault) (old mid new : Slot → SlotView) (outcome : Outcome) (line : List ℕ) (result : Outcome) → Called asked old mid new outcome line result →
    result ≡ OutOfMemory → NoneRose old new →
    WhereRead asked old (λ p c. LeavesSlot (due_of_why asked p c).report (old slots.Report) (new slots.Report) ⊎ Appends [] (old slots.Note) (new slots.Note))
called_noted_late asked old mid new outcome line result called short none = if_read asked old _ _
    (λ p c notes. by (due_of_why asked p c) notes)
    (called_noted_short asked old mid new outcome line result called short)
  where
    by : (due : WhyDue) → NotesPrefix due old new → LeavesSlot due.report (old slots.Report) (new slots.Report) ⊎ Appends [] (old slots.Note) (new slots.Note)
    by due (inl (a, left)) = inl left
    by due (inr (inl (s, risen, a))) = absurd (none s risen)
    by due (inr (inr (inl (s, risen, a)))) = absurd (none s risen)
    by due (inr (inr (inr nothing))) = inr nothing
