-- The answer of a call after its line was put into Note.
use Rattle.std.proofs.Common.{◌≡◌, ◌≢◌, ◌⊎◌, ◌∙◌, inl, inr, ℕ, List, refl, ap, rules, sym, subst}
use Rattle.std.specs.Prelude.{Result}
use Rattle.nfp_outside.specs.declared.slot.Slot.{Slot}
use Rattle.nfp_outside.specs.declared.slot.Slot.TheVariants as slots
use Rattle.nfp_outside.specs.Outside.{SlotView, IsRisen, Appends, AppendsPrefix}
use Rattle.nfp_outside.specs.Adding.{prefix_whole}
use Rattle.command_words.specs.WhyWords.{WhyAsked}
use Rattle.command_words.specs.declared.usage.UsageFault.{UsageFault}
use Rattle.call_ending.specs.Endings.{NotesLine, untold}
use Rattle.call_ending.specs.Left.{IsFinal, LeavesPrefix, LeavesSlot, NoneRose, note_due}
use Rattle.call_ending.specs.declared.outcome.Outcome.{Outcome}
use Rattle.call_ending.specs.declared.outcome.Outcome.TheVariants.{Done, Usage, Policy, Graph, Capture, CaptureNg, ReadFault, WriteFault, OutOfMemory}
use Rattle.why_call.specs.Answers.{IsDue, ReadFaultCause, WhereRead, WriteFaultCause}
use Rattle.why_call.specs.Due.{WhyDue, due_of_why}
use Rattle.why_call.specs.Ran.{Called, EndsDue, Ran}
use Rattle.why_call.proofs.OtherSlots.{capture_beside, policy_beside, report_beside}
use Rattle.why_call.proofs.ReadBytes.{if_read, read_always, read_under}

-- an outcome without final content isn't one of the others
pub untold_final : (outcome : Outcome) → IsFinal (untold outcome) → untold outcome ≡ outcome
untold_final Done final = search rules
untold_final (Usage fault) final = refl
untold_final (Policy fault) final = refl
untold_final (Graph fault) final = refl
untold_final (Capture fault) final = refl
untold_final (CaptureNg fault) final = refl
untold_final (ReadFault s) final = refl
untold_final (WriteFault s) final = refl
untold_final OutOfMemory final = refl

-- an outcome that isn't Note's own was there before
pub untold_seen : (seen o : Outcome) → untold seen ≡ o → o ≢ WriteFault slots.Note → seen ≡ o
untold_seen Done o e other = absurd (other (sym e))
untold_seen (Usage fault) o e other = e
untold_seen (Policy fault) o e other = e
untold_seen (Graph fault) o e other = e
untold_seen (Capture fault) o e other = e
untold_seen (CaptureNg fault) o e other = e
untold_seen (ReadFault s) o e other = e
untold_seen (WriteFault s) o e other = e
untold_seen OutOfMemory o e other = e

-- Note's fault takes the place of work that was done
pub untold_done : (seen : Outcome) → untold seen ≡ WriteFault slots.Note → (seen ≡ WriteFault slots.Note → ⊥) → seen ≡ Done
untold_done Done e none = refl
untold_done (Usage fault) e none = absurd (none e)
untold_done (Policy fault) e none = absurd (none e)
untold_done (Graph fault) e none = absurd (none e)
untold_done (Capture fault) e none = absurd (none e)
untold_done (CaptureNg fault) e none = absurd (none e)
untold_done (ReadFault s) e none = absurd (none e)
untold_done (WriteFault s) e none = absurd (none e)
untold_done OutOfMemory e none = absurd (none e)

seen_where_final : (outcome : Outcome) (line : List ℕ) (old new : SlotView) (result : Outcome) → NotesLine outcome line old new result → IsFinal result → result ≡ outcome
seen_where_final outcome line old new result (inl (is, a)) final = is
seen_where_final outcome line old new result (inr (inl (is, a))) final = absurd (subst IsFinal is final)
seen_where_final outcome line old new result (inr (inr (is, r, a))) final = is ∙ untold_final outcome (subst IsFinal is final)

pub seen_before : (outcome : Outcome) (line : List ℕ) (old new : SlotView) (result o : Outcome) → NotesLine outcome line old new result → result ≡ o → o ≢ OutOfMemory → o ≢ WriteFault slots.Note →
    outcome ≡ o
seen_before outcome line old new result o (inl (is, a)) e some other = sym is ∙ e
seen_before outcome line old new result o (inr (inl (is, a))) e some other = absurd (some (sym e ∙ is))
seen_before outcome line old new result o (inr (inr (is, r, a))) e some other = untold_seen outcome o (sym is ∙ e) other

due_here : (due : WhyDue) (old mid new : Slot → SlotView) (outcome : Outcome) (line : List ℕ) (result : Outcome) → new slots.Report ≡ mid slots.Report → result ≡ outcome →
    EndsDue due old mid outcome line → IsDue due old new result
due_here due old mid new outcome line result same is ends = record { answer = is ∙ ends.answer; left = subst (LeavesSlot due.report (old slots.Report)) (sym same) ends.left }

ends_under : (asked : Result WhyAsked UsageFault) (old mid : Slot → SlotView) (outcome : Outcome) (line : List ℕ) → Ran asked old mid outcome line →
    WhereRead asked old (λ p c. IsFinal outcome → EndsDue (due_of_why asked p c) old mid outcome line)
ends_under asked old mid outcome line ran = read_under asked old (IsFinal outcome) (λ p c. EndsDue (due_of_why asked p c) old mid outcome line) ran.due

-- an outcome that is final is the one that is due
pub called_exact : (asked : Result WhyAsked UsageFault) (old mid new : Slot → SlotView) (outcome : Outcome) (line : List ℕ) (result : Outcome) → Called asked old mid new outcome line result →
    IsFinal result → WhereRead asked old (λ p c. IsDue (due_of_why asked p c) old new result)
called_exact asked old mid new outcome line result called final =
    let is = seen_where_final outcome line (mid slots.Note) (new slots.Note) result called.notes final in
    if_read asked old _ _ (λ p c ends. due_here (due_of_why asked p c) old mid new outcome line result (called.beside slots.Report report_beside) is (ends (subst IsFinal is final)))
    (ends_under asked old mid outcome line called.ran)

-- if the work was done, what is due stays, whatever happened to its line
pub called_done : (asked : Result WhyAsked UsageFault) (old mid new : Slot → SlotView) (outcome : Outcome) (line : List ℕ) (result : Outcome) → Called asked old mid new outcome line result →
    outcome ≡ Done → WhereRead asked old (λ p c. IsDue (due_of_why asked p c) old new Done)
called_done asked old mid new outcome line result called done = if_read asked old _ _
    (λ p c ends. due_here (due_of_why asked p c) old mid new outcome line Done (called.beside slots.Report report_beside) (sym done) ends)
    (called.ran.due (subst IsFinal (sym done) tt))

pub called_prefixes : (asked : Result WhyAsked UsageFault) (old mid new : Slot → SlotView) (outcome : Outcome) (line : List ℕ) (result : Outcome) → Called asked old mid new outcome line result →
    WhereRead asked old (λ p c. LeavesPrefix (due_of_why asked p c).report (old slots.Report) (new slots.Report))
called_prefixes asked old mid new outcome line result called = if_read asked old _ _
    (λ p c h. subst (LeavesPrefix (due_of_why asked p c).report (old slots.Report)) (sym (called.beside slots.Report report_beside)) h) called.ran.prefix

-- a fault of a slot comes only if its count rose, and it isn't Note's
pub risen_reading : (asked : Result WhyAsked UsageFault) (old mid : Slot → SlotView) (s : Slot) → ReadFaultCause asked old mid s → (s ≢ slots.Note) × IsRisen (old s).faults (mid s).faults
risen_reading asked old mid slots.Policy h = (policy_beside, h.1)
risen_reading asked old mid slots.Capture h = (capture_beside, h.1)
risen_reading asked old mid slots.Out h = absurd h
risen_reading asked old mid slots.Report h = absurd h
risen_reading asked old mid slots.Note h = absurd h
risen_reading asked old mid slots.Graph h = absurd h

pub risen_writing : (asked : Result WhyAsked UsageFault) (old mid : Slot → SlotView) (s : Slot) → s ≢ slots.Note → WriteFaultCause asked old mid s →
    (s ≢ slots.Note) × IsRisen (old s).faults (mid s).faults
risen_writing asked old mid slots.Report other h = (report_beside, h.1)
risen_writing asked old mid slots.Note other h = absurd (other refl)
risen_writing asked old mid slots.Out other h = absurd h
risen_writing asked old mid slots.Policy other h = absurd h
risen_writing asked old mid slots.Capture other h = absurd h
risen_writing asked old mid slots.Graph other h = absurd h

-- if no count rose, the work ended with a final outcome, or it ran out of memory
no_fault : (asked : Result WhyAsked UsageFault) (old mid new : Slot → SlotView) (outcome : Outcome) (line : List ℕ) → Ran asked old mid outcome line → ((s : Slot) → s ≢ slots.Note → new s ≡ mid s) →
    NoneRose old new →
    IsFinal outcome ⊎ (outcome ≡ OutOfMemory)
no_fault asked old mid new outcome line ran beside none = go outcome refl
  where
    fails : (s : Slot) → (s ≢ slots.Note) × IsRisen (old s).faults (mid s).faults → ⊥
    fails s h = none s (subst (λ v. IsRisen (old s).faults v.faults) (sym (beside s h.0)) h.1)

    go : (o : Outcome) → outcome ≡ o → IsFinal outcome ⊎ (outcome ≡ OutOfMemory)
    go Done e = inl (subst IsFinal (sym e) tt)
    go (Usage fault) e = inl (subst IsFinal (sym e) tt)
    go (Policy fault) e = inl (subst IsFinal (sym e) tt)
    go (Graph fault) e = inl (subst IsFinal (sym e) tt)
    go (Capture fault) e = inl (subst IsFinal (sym e) tt)
    go (CaptureNg fault) e = inl (subst IsFinal (sym e) tt)
    go (ReadFault s) e = absurd (fails s (risen_reading asked old mid s (ran.read_faults s e)))
    go (WriteFault s) e = absurd (fails s (risen_writing asked old mid s (λ is. ran.no_note_fault (e ∙ ap WriteFault is)) (ran.write_faults s e)))
    go OutOfMemory e = inr e

pub whole_here : (text text' : List ℕ) (old mid new : SlotView) → mid ≡ old → text ≡ text' → Appends text mid new → Appends text' old new
whole_here text text' old mid new p q a = subst (λ v. Appends text' v new) p (subst (λ t. Appends t mid new) q a)

pub prefix_here : (text text' : List ℕ) (old mid new : SlotView) → mid ≡ old → text ≡ text' → AppendsPrefix text mid new → AppendsPrefix text' old new
prefix_here text text' old mid new p q a = subst (λ v. AppendsPrefix text' v new) p (subst (λ t. AppendsPrefix t mid new) q a)

-- if no count rose, the answer is what is due
pub called_answers : (asked : Result WhyAsked UsageFault) (old mid new : Slot → SlotView) (outcome : Outcome) (line : List ℕ) (result : Outcome) → Called asked old mid new outcome line result →
    NoneRose old new →
    WhereRead asked old (λ p c. (IsDue (due_of_why asked p c) old new result × Appends (due_of_why asked p c).note (old slots.Note) (new slots.Note)) ⊎ (result ≡ OutOfMemory))
called_answers asked old mid new outcome line result called none = if_read asked old _ _
    (λ p c ends. by_notes (due_of_why asked p c) ends called.notes) (ends_under asked old mid outcome line called.ran)
  where
    final : (due : WhyDue) → (IsFinal outcome → EndsDue due old mid outcome line) → result ≡ outcome → Appends line (mid slots.Note) (new slots.Note) → IsFinal outcome ⊎ (outcome ≡ OutOfMemory) →
        (IsDue due old new result × Appends due.note (old slots.Note) (new slots.Note)) ⊎ (result ≡ OutOfMemory)
    final due ends is a (inl f) = inl (
      due_here due old mid new outcome line result (called.beside slots.Report report_beside) is (ends f),
      whole_here line due.note (old slots.Note) (mid slots.Note) (new slots.Note) called.ran.note_stays (ends f).note a,
    )
    final due ends is a (inr m) = inr (is ∙ m)

    by_notes : (due : WhyDue) → (IsFinal outcome → EndsDue due old mid outcome line) → NotesLine outcome line (mid slots.Note) (new slots.Note) result →
        (IsDue due old new result × Appends due.note (old slots.Note) (new slots.Note)) ⊎ (result ≡ OutOfMemory)
    by_notes due ends (inl (is, a)) = final due ends is a (no_fault asked old mid new outcome line called.ran called.beside none)
    by_notes due ends (inr (inl (is, a))) = inr is
    by_notes due ends (inr (inr (is, r, a))) = absurd (none slots.Note (subst (λ v. IsRisen v.faults (new slots.Note).faults) called.ran.note_stays r))

-- ---- the line

-- the line of work that ended so is the one that is due
seen_text : (asked : Result WhyAsked UsageFault) (old mid : Slot → SlotView) (outcome : Outcome) (line : List ℕ) → Ran asked old mid outcome line → outcome ≢ OutOfMemory →
    WhereRead asked old (λ p c. line ≡ note_due outcome (due_of_why asked p c).note)
seen_text asked old mid Done line ran some = if_read asked old _ _ (λ p c ends. ends.note) (ran.due tt)
seen_text asked old mid (Usage fault) line ran some = if_read asked old _ _ (λ p c ends. ends.note) (ran.due tt)
seen_text asked old mid (Policy fault) line ran some = if_read asked old _ _ (λ p c ends. ends.note) (ran.due tt)
seen_text asked old mid (Graph fault) line ran some = if_read asked old _ _ (λ p c ends. ends.note) (ran.due tt)
seen_text asked old mid (Capture fault) line ran some = if_read asked old _ _ (λ p c ends. ends.note) (ran.due tt)
seen_text asked old mid (CaptureNg fault) line ran some = if_read asked old _ _ (λ p c ends. ends.note) (ran.due tt)
seen_text asked old mid (ReadFault s) line ran some = read_always asked old _ (λ p c. ran.fault_line)
seen_text asked old mid (WriteFault slots.Report) line ran some = read_always asked old _ (λ p c. ran.fault_line)
seen_text asked old mid (WriteFault slots.Out) line ran some = absurd (ran.write_faults slots.Out refl)
seen_text asked old mid (WriteFault slots.Note) line ran some = absurd (ran.no_note_fault refl)
seen_text asked old mid (WriteFault slots.Policy) line ran some = absurd (ran.write_faults slots.Policy refl)
seen_text asked old mid (WriteFault slots.Capture) line ran some = absurd (ran.write_faults slots.Capture refl)
seen_text asked old mid (WriteFault slots.Graph) line ran some = absurd (ran.write_faults slots.Graph refl)
seen_text asked old mid OutOfMemory line ran some = absurd (some refl)

-- the same if it couldn't be put: only work that was done is replaced by the fault of Note
unnoted_text : (asked : Result WhyAsked UsageFault) (old mid : Slot → SlotView) (outcome : Outcome) (line : List ℕ) → Ran asked old mid outcome line → untold outcome ≢ OutOfMemory →
    WhereRead asked old (λ p c. line ≡ note_due (untold outcome) (due_of_why asked p c).note)
unnoted_text asked old mid Done line ran some = if_read asked old _ _ (λ p c ends. ends.note) (ran.due tt)
unnoted_text asked old mid (Usage fault) line ran some = seen_text asked old mid (Usage fault) line ran some
unnoted_text asked old mid (Policy fault) line ran some = seen_text asked old mid (Policy fault) line ran some
unnoted_text asked old mid (Graph fault) line ran some = seen_text asked old mid (Graph fault) line ran some
unnoted_text asked old mid (Capture fault) line ran some = seen_text asked old mid (Capture fault) line ran some
unnoted_text asked old mid (CaptureNg fault) line ran some = seen_text asked old mid (CaptureNg fault) line ran some
unnoted_text asked old mid (ReadFault s) line ran some = seen_text asked old mid (ReadFault s) line ran some
unnoted_text asked old mid (WriteFault s) line ran some = seen_text asked old mid (WriteFault s) line ran some
unnoted_text asked old mid OutOfMemory line ran some = seen_text asked old mid OutOfMemory line ran some

pub called_noted : (asked : Result WhyAsked UsageFault) (old mid new : Slot → SlotView) (outcome : Outcome) (line : List ℕ) (result : Outcome) → Called asked old mid new outcome line result →
    result ≢ OutOfMemory →
    WhereRead asked old (λ p c. AppendsPrefix (note_due result (due_of_why asked p c).note) (old slots.Note) (new slots.Note))
called_noted asked old mid new outcome line result called some = by_notes called.notes
  where
    by_notes : NotesLine outcome line (mid slots.Note) (new slots.Note) result →
        WhereRead asked old (λ p c. AppendsPrefix (note_due result (due_of_why asked p c).note) (old slots.Note) (new slots.Note))
    by_notes (inl (is, a)) = if_read asked old _ _
        (λ p c t. prefix_here line (note_due result (due_of_why asked p c).note) (old slots.Note) (mid slots.Note) (new slots.Note) called.ran.note_stays
        (t ∙ ap (λ o. note_due o (due_of_why asked p c).note) (sym is)) (prefix_whole line (mid slots.Note) (new slots.Note) a))
        (seen_text asked old mid outcome line called.ran (λ m. some (is ∙ m)))
    by_notes (inr (inl (is, a))) = absurd (some is)
    by_notes (inr (inr (is, r, a))) = if_read asked old _ _
        (λ p c t. prefix_here line (note_due result (due_of_why asked p c).note) (old slots.Note) (mid slots.Note) (new slots.Note) called.ran.note_stays
        (t ∙ ap (λ o. note_due o (due_of_why asked p c).note) (sym is)) a)
        (unnoted_text asked old mid outcome line called.ran (λ m. some (is ∙ m)))

pub called_noted_whole : (asked : Result WhyAsked UsageFault) (old mid new : Slot → SlotView) (outcome : Outcome) (line : List ℕ) (result : Outcome) → Called asked old mid new outcome line result →
    result ≢ OutOfMemory →
    ¬ IsRisen (old slots.Note).faults (new slots.Note).faults → WhereRead asked old (λ p c. Appends (note_due result (due_of_why asked p c).note) (old slots.Note) (new slots.Note))
called_noted_whole asked old mid new outcome line result called some calm = by_notes called.notes
  where
    by_notes : NotesLine outcome line (mid slots.Note) (new slots.Note) result → WhereRead asked old (λ p c. Appends (note_due result (due_of_why asked p c).note) (old slots.Note) (new slots.Note))
    by_notes (inl (is, a)) = if_read asked old _ _
        (λ p c t. whole_here line (note_due result (due_of_why asked p c).note) (old slots.Note) (mid slots.Note) (new slots.Note) called.ran.note_stays
        (t ∙ ap (λ o. note_due o (due_of_why asked p c).note) (sym is)) a)
        (seen_text asked old mid outcome line called.ran (λ m. some (is ∙ m)))
    by_notes (inr (inl (is, a))) = absurd (some is)
    by_notes (inr (inr (is, r, a))) = absurd (calm (subst (λ v. IsRisen v.faults (new slots.Note).faults) called.ran.note_stays r))
