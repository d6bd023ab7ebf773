-- What Note holds if the work was done, and if it ran out of memory.
use Rattle.std.proofs.Common.{◌≡◌, ◌≢◌, ◌⊎◌, ◌∙◌, inl, inr, ℕ, List, [], ◌∷◌, ◌++◌, refl, ap, sym, subst}
use Rattle.std.specs.Prelude.{Result}
use Rattle.nfp_outside.specs.declared.slot.Slot.{Slot}
use Rattle.nfp_outside.specs.declared.slot.Slot.TheVariants as slots
use Rattle.nfp_outside.specs.Outside.{SlotView, IsRisen, Appends, AppendsPrefix}
use Rattle.call_ending.specs.declared.outcome.Outcome.{Outcome}
use Rattle.call_ending.specs.declared.outcome.Outcome.TheVariants.{Done, Usage, Policy, Graph, Capture, CaptureNg, ReadFault, WriteFault, OutOfMemory}
use Rattle.call_ending.specs.declared.ending.Ending.{Ending}
use Rattle.call_ending.specs.declared.ending.Ending.TheVariants.{Completed, Shown, Refused, GraphRefused, Stopped}
use Rattle.command_words.specs.declared.usage.UsageFault.{UsageFault}
use Rattle.command_words.specs.Words.{Command}
use Rattle.call_ending.specs.Notes.{read_fault_text, write_fault_text}
use Rattle.nfp_run.specs.Due.{due_of_command}
use Rattle.call_ending.specs.Endings.{outcome_seen, untold, text_of, Notes}
use Rattle.nfp_run.specs.Ran.{Ran}
use Rattle.nfp_run.specs.Written.{Files}
use Rattle.nfp_run.specs.Answers.{IsFinal, NoneRose, WhereRead, Leaves, NotesPrefix, ReadFaultCause, WriteFaultCause}
use Rattle.nfp_outside.specs.Adding.{prefix_whole}
use Rattle.nfp_run.proofs.CallAnswers.{Called, whole_here, leaves_to, policy_beside, capture_beside, graph_beside, out_beside, report_beside}
use Rattle.nfp_run.proofs.TextsTold.{if_read, read_always}

untold_is_not_done : (outcome : Outcome) → untold outcome ≢ Done
untold_is_not_done Done e = cc
untold_is_not_done (Usage fault) e = cc
untold_is_not_done (Policy fault) e = cc
untold_is_not_done (Graph fault) e = cc
untold_is_not_done (Capture fault) e = cc
untold_is_not_done (CaptureNg fault) e = cc
untold_is_not_done (ReadFault s) e = cc
untold_is_not_done (WriteFault s) e = cc
untold_is_not_done OutOfMemory e = cc

pub called_done_noted : (command : Result Command UsageFault) (old mid new : Slot → SlotView) (ended : Ending) (result : Outcome) → Called command old mid new ended result → result ≡ Done →
    WhereRead command old (λ p g c. Appends (due_of_command command p g c).note (old slots.Note) (new slots.Note))
called_done_noted command old mid new ended result called done = by_notes called.notes
  where
    by_notes : Notes ended (mid slots.Note) (new slots.Note) result → WhereRead command old (λ p g c. Appends (due_of_command command p g c).note (old slots.Note) (new slots.Note))
    by_notes (inl (is, a)) = if_read command old _ _
        (λ p g c ends. whole_here (text_of ended) (due_of_command command p g c).note (old slots.Note) (mid slots.Note) (new slots.Note) called.ran.note_stays ends.note a)
        (called.ran.due (subst IsFinal (sym (sym is ∙ done)) tt))
    by_notes (inr (inl (is, a))) = absurd cc
    by_notes (inr (inr (is, r, a))) = absurd (untold_is_not_done (outcome_seen ended) (sym is ∙ done))

-- The text for an end: the one that is due, after all that is due was put; the line of a fault of a slot whose count
-- rose; or nothing.
abbrev IsTold : (Slot → SlotView) → (Slot → SlotView) → List ℕ → Files → List ℕ → Type 0
IsTold old mid note written text =
    ((text ≡ note) × Leaves written old mid)
    ⊎ ((s : Slot) × (s ≢ slots.Note) × IsRisen (old s).faults (mid s).faults × (text ≡ read_fault_text s))
    ⊎ ((s : Slot) × (s ≢ slots.Note) × IsRisen (old s).faults (mid s).faults × (text ≡ write_fault_text s))
    ⊎ (text ≡ [])

due_told : (command : Result Command UsageFault) (old mid : Slot → SlotView) (ended : Ending) → Ran command old mid ended → IsFinal (outcome_seen ended) →
    WhereRead command old (λ p g c. IsTold old mid (due_of_command command p g c).note (due_of_command command p g c).written (text_of ended))
due_told command old mid ended ran final = if_read command old _ _ (λ p g c ends. inl (ends.note, ends.left)) (ran.due final)

-- a fault of a slot comes only if its count rose, and it isn't Note's
risen_reading : (command : Result Command UsageFault) (old mid : Slot → SlotView) (s : Slot) → ReadFaultCause command old mid s → (s ≢ slots.Note) × IsRisen (old s).faults (mid s).faults
risen_reading command old mid slots.Policy h = (policy_beside, h.1)
risen_reading command old mid slots.Capture h = (capture_beside, h.1)
risen_reading command old mid slots.Out h = absurd h
risen_reading command old mid slots.Report h = absurd h
risen_reading command old mid slots.Note h = absurd h
risen_reading command old mid slots.Graph h = (graph_beside, h.risen)

risen_writing : (command : Result Command UsageFault) (old mid : Slot → SlotView) (s : Slot) → s ≢ slots.Note → WriteFaultCause command old mid s →
    (s ≢ slots.Note) × IsRisen (old s).faults (mid s).faults
risen_writing command old mid slots.Out other h = (out_beside, h.1)
risen_writing command old mid slots.Report other h = (report_beside, h.1)
risen_writing command old mid slots.Note other h = absurd (other refl)
risen_writing command old mid slots.Policy other h = absurd h
risen_writing command old mid slots.Capture other h = absurd h
risen_writing command old mid slots.Graph other h = absurd h

told_text : (command : Result Command UsageFault) (old mid : Slot → SlotView) (ended : Ending) → Ran command old mid ended →
    WhereRead command old (λ p g c. IsTold old mid (due_of_command command p g c).note (due_of_command command p g c).written (text_of ended))
told_text command old mid (Completed totals) ran = due_told command old mid (Completed totals) ran tt
told_text command old mid (Shown text) ran = due_told command old mid (Shown text) ran tt
told_text command old mid (Refused refusal) ran = due_told command old mid (Refused refusal) ran tt
told_text command old mid (GraphRefused refusal) ran = due_told command old mid (GraphRefused refusal) ran tt
told_text command old mid (Stopped Done) ran = due_told command old mid (Stopped Done) ran tt
told_text command old mid (Stopped (Usage fault)) ran = due_told command old mid (Stopped (Usage fault)) ran tt
told_text command old mid (Stopped (Policy fault)) ran = due_told command old mid (Stopped (Policy fault)) ran tt
told_text command old mid (Stopped (Graph fault)) ran = due_told command old mid (Stopped (Graph fault)) ran tt
told_text command old mid (Stopped (Capture fault)) ran = due_told command old mid (Stopped (Capture fault)) ran tt
told_text command old mid (Stopped (CaptureNg fault)) ran = due_told command old mid (Stopped (CaptureNg fault)) ran tt
told_text command old mid (Stopped (ReadFault s)) ran =
    read_always command old _ (λ p g c. inr (inl (s, (risen_reading command old mid s (ran.read_faults s refl)).0, (risen_reading command old mid s (ran.read_faults s refl)).1, refl)))
told_text command old mid (Stopped (WriteFault s)) ran = read_always command old _ (λ p g c. inr (inr (inl (s, (risen_writing command old mid s (λ e. ran.no_note_fault (ap WriteFault e)) (ran.write_faults s refl)).0, (risen_writing command old mid s (λ e. ran.no_note_fault (ap WriteFault e)) (ran.write_faults s refl)).1, refl))))
told_text command old mid (Stopped OutOfMemory) ran = read_always command old _ (λ p g c. inr (inr (inr refl)))

nothing_in_front : (done rest : List ℕ) → [] ≡ done ++ rest → done ≡ []
nothing_in_front [] rest e = refl
nothing_in_front (b ∷ done) rest e = absurd cc

nothing_before : (old new : SlotView) → AppendsPrefix [] old new → Appends [] old new
nothing_before old new a = subst (λ d. Appends d old new) (nothing_in_front a.done a.rest a.parts) a.appended

-- the slots beside Note, and Note before its line, are those in the middle
prefix_told : (note text : List ℕ) (written : Files) (old mid new : Slot → SlotView) → mid slots.Note ≡ old slots.Note → ((s : Slot) → s ≢ slots.Note → new s ≡ mid s) →
    IsTold old mid note written text → AppendsPrefix text (mid slots.Note) (new slots.Note) →
    NotesPrefix note written old new
prefix_told note text written old mid new stays beside told a = by told
  where
    put : (line : List ℕ) → text ≡ line → AppendsPrefix line (old slots.Note) (new slots.Note)
    put line e = subst (λ v. AppendsPrefix line v (new slots.Note)) stays (subst (λ t. AppendsPrefix t (mid slots.Note) (new slots.Note)) e a)

    still : (s : Slot) → s ≢ slots.Note → IsRisen (old s).faults (mid s).faults → IsRisen (old s).faults (new s).faults
    still s other h = subst (λ v. IsRisen (old s).faults v.faults) (sym (beside s other)) h

    by : IsTold old mid note written text → NotesPrefix note written old new
    by (inl (e, left)) = inl (put note e, leaves_to written old mid new (beside slots.Out out_beside) (beside slots.Report report_beside) left)
    by (inr (inl (s, other, h, e))) = inr (inl (s, still s other h, put (read_fault_text s) e))
    by (inr (inr (inl (s, other, h, e)))) = inr (inr (inl (s, still s other h, put (write_fault_text s) e)))
    by (inr (inr (inr e))) = inr (inr (inr (nothing_before (old slots.Note) (new slots.Note) (put [] e))))

pub called_noted_short : (command : Result Command UsageFault) (old mid new : Slot → SlotView) (ended : Ending) (result : Outcome) → Called command old mid new ended result → result ≡ OutOfMemory →
    WhereRead command old (λ p g c. NotesPrefix (due_of_command command p g c).note (due_of_command command p g c).written old new)
called_noted_short command old mid new ended result called short = if_read command old _ _
    (λ p g c told. prefix_told (due_of_command command p g c).note (text_of ended) (due_of_command command p g c).written old mid new called.ran.note_stays called.beside told (by_notes called.notes))
    (told_text command old mid ended called.ran)
  where
    by_notes : Notes ended (mid slots.Note) (new slots.Note) result → AppendsPrefix (text_of ended) (mid slots.Note) (new slots.Note)
    by_notes (inl (is, a)) = prefix_whole (text_of ended) (mid slots.Note) (new slots.Note) a
    by_notes (inr (inl (is, a))) = a
    by_notes (inr (inr (is, r, a))) = a

pub called_noted_late : (command : Result Command UsageFault) (old mid new : Slot → SlotView) (ended : Ending) (result : Outcome) → Called command old mid new ended result → result ≡ OutOfMemory →
    NoneRose old new →
    WhereRead command old (λ p g c. Leaves (due_of_command command p g c).written old new ⊎ Appends [] (old slots.Note) (new slots.Note))
called_noted_late command old mid new ended result called short none = if_read command old _ _
    (λ p g c notes. by (due_of_command command p g c).note (due_of_command command p g c).written notes)
    (called_noted_short command old mid new ended result called short)
  where
    by : (note : List ℕ) (written : Files) → NotesPrefix note written old new → Leaves written old new ⊎ Appends [] (old slots.Note) (new slots.Note)
    by note written (inl (a, left)) = inl left
    by note written (inr (inl (s, risen, a))) = absurd (none s risen)
    by note written (inr (inr (inl (s, risen, a)))) = absurd (none s risen)
    by note written (inr (inr (inr nothing))) = inr nothing
