-- The answer of a call after its line was put into Note.
use Rattle.std.proofs.Common.{◌≡◌, ◌≢◌, ◌⊎◌, ◌∙◌, inl, inr, ℕ, List, refl, ap, rules, sym, subst}
use Rattle.std.specs.Prelude.{Result}
use Rattle.nfp_outside.specs.declared.slot.Slot.{Slot}
use Rattle.nfp_outside.specs.declared.slot.Slot.TheVariants as slots
use Rattle.nfp_outside.specs.Outside.{SlotView, IsRisen, Appends, AppendsPrefix}
use Rattle.call_ending.specs.declared.outcome.Outcome.{Outcome}
use Rattle.call_ending.specs.declared.outcome.Outcome.TheVariants.{Done, Usage, Policy, Graph, Capture, CaptureNg, ReadFault, WriteFault, OutOfMemory}
use Rattle.call_ending.specs.declared.ending.Ending.{Ending}
use Rattle.call_ending.specs.declared.ending.Ending.TheVariants.{Completed, Shown, Refused, GraphRefused, Stopped}
use Rattle.command_words.specs.declared.usage.UsageFault.{UsageFault}
use Rattle.command_words.specs.Words.{Command}
use Rattle.nfp_run.specs.Due.{Due, due_of_command}
use Rattle.nfp_run.specs.Written.{Files}
use Rattle.call_ending.specs.Endings.{outcome_seen, untold, text_of, Notes}
use Rattle.nfp_run.specs.Closing.{EndsDue}
use Rattle.nfp_run.specs.Ran.{Ran}
use Rattle.nfp_run.specs.Answers.{IsDue, IsFinal, NoneRose, WhereRead, Leaves, LeavesPrefix, LeavesPrefixes, LeavesSlot, ReadFaultCause, WriteFaultCause, note_due}
use Rattle.nfp_outside.specs.Adding.{prefix_whole}
use Rattle.nfp_run.proofs.TextsTold.{if_read, read_always, read_under}

-- a call: what ran, and then the line in Note
pub record Called (command : Result Command UsageFault) (old mid new : Slot → SlotView) (ended : Ending) (result : Outcome) : Type 0 where
  pub ran : Ran command old mid ended
  pub notes : Notes ended (mid slots.Note) (new slots.Note) result
  pub beside : (s : Slot) → s ≢ slots.Note → new s ≡ mid s

pub policy_beside : slots.Policy ≢ slots.Note
policy_beside h = cc

pub capture_beside : slots.Capture ≢ slots.Note
capture_beside h = cc

pub graph_beside : slots.Graph ≢ slots.Note
graph_beside h = cc

pub out_beside : slots.Out ≢ slots.Note
out_beside h = cc

pub report_beside : slots.Report ≢ slots.Note
report_beside h = cc

pub leaves_to : (due : Files) (old mid new : Slot → SlotView) → new slots.Out ≡ mid slots.Out → new slots.Report ≡ mid slots.Report → Leaves due old mid → Leaves due old new
leaves_to due old mid new p q (a, b) = (subst (LeavesSlot due.out (old slots.Out)) (sym p) a, subst (LeavesSlot due.report (old slots.Report)) (sym q) b)

prefixes_to : (due : Files) (old mid new : Slot → SlotView) → new slots.Out ≡ mid slots.Out → new slots.Report ≡ mid slots.Report → LeavesPrefixes due old mid → LeavesPrefixes due old new
prefixes_to due old mid new p q (a, b) = (subst (LeavesPrefix due.out (old slots.Out)) (sym p) a, subst (LeavesPrefix due.report (old slots.Report)) (sym q) b)

due_here : (due : Due) (old mid new : Slot → SlotView) (ended : Ending) (result : Outcome) → new slots.Out ≡ mid slots.Out → new slots.Report ≡ mid slots.Report → result ≡ outcome_seen ended →
    EndsDue due old mid ended → IsDue due old new result
due_here due old mid new ended result p q is ends = record { answer = is ∙ ends.answer; left = leaves_to due.written old mid new p q ends.left }

untold_final : (outcome : Outcome) → IsFinal (untold outcome) → untold outcome ≡ outcome
untold_final Done final = search rules
untold_final (Usage fault) final = refl
untold_final (Policy fault) final = refl
untold_final (Graph fault) final = refl
untold_final (Capture fault) final = refl
untold_final (CaptureNg fault) final = refl
untold_final (ReadFault s) final = refl
untold_final (WriteFault s) final = refl
untold_final OutOfMemory final = refl

seen_where_final : (ended : Ending) (result : Outcome) (old new : SlotView) → Notes ended old new result → IsFinal result → result ≡ outcome_seen ended
seen_where_final ended result old new (inl (is, a)) final = is
seen_where_final ended result old new (inr (inl (is, a))) final = absurd (subst IsFinal is final)
seen_where_final ended result old new (inr (inr (is, r, a))) final = is ∙ untold_final (outcome_seen ended) (subst IsFinal is final)

-- an outcome that is final is the one that is due, if a final ending is
due_exact : (due : Due) (command : Result Command UsageFault) (old mid new : Slot → SlotView) (ended : Ending) (result : Outcome) → Called command old mid new ended result →
    (IsFinal (outcome_seen ended) → EndsDue due old mid ended) → IsFinal result → IsDue due old new result
due_exact due command old mid new ended result called ends final =
    let is = seen_where_final ended result (mid slots.Note) (new slots.Note) called.notes final in
    due_here due old mid new ended result (called.beside slots.Out out_beside) (called.beside slots.Report report_beside) is (ends (subst IsFinal is final))

pub called_exact : (command : Result Command UsageFault) (old mid new : Slot → SlotView) (ended : Ending) (result : Outcome) → Called command old mid new ended result →
    IsFinal result → WhereRead command old (λ p g c. IsDue (due_of_command command p g c) old new result)
called_exact command old mid new ended result called final = if_read command old _ _
    (λ p g c ends. due_exact (due_of_command command p g c) command old mid new ended result called ends final)
    (read_under command old (IsFinal (outcome_seen ended)) (λ p g c. EndsDue (due_of_command command p g c) old mid ended) called.ran.due)

-- if the work was done, what is due stays, whatever happened to its line
pub called_done : (command : Result Command UsageFault) (old mid new : Slot → SlotView) (ended : Ending) (outcome : Outcome) {result : Outcome} → Called command old mid new ended result →
    outcome_seen ended ≡ Done → outcome ≡ outcome_seen ended → WhereRead command old (λ p g c. IsDue (due_of_command command p g c) old new outcome)
called_done command old mid new ended outcome called done is = if_read command old _ _
    (λ p g c ends. due_here (due_of_command command p g c) old mid new ended outcome (called.beside slots.Out out_beside) (called.beside slots.Report report_beside) is ends)
    (called.ran.due (subst IsFinal (sym done) tt))

pub called_prefixes : (command : Result Command UsageFault) (old mid new : Slot → SlotView) (ended : Ending) (result : Outcome) → Called command old mid new ended result →
    WhereRead command old (λ p g c. LeavesPrefixes (due_of_command command p g c).written old new)
called_prefixes command old mid new ended result called = if_read command old _ _
    (λ p g c h. prefixes_to (due_of_command command p g c).written old mid new (called.beside slots.Out out_beside) (called.beside slots.Report report_beside) h) called.ran.prefixes

-- no count that a fault of the run names rose
pub no_fault : (command : Result Command UsageFault) (old mid new : Slot → SlotView) (ended : Ending) → Ran command old mid ended → ((s : Slot) → s ≢ slots.Note → new s ≡ mid s) → NoneRose old new →
    IsFinal (outcome_seen ended) ⊎ (outcome_seen ended ≡ OutOfMemory)
no_fault command old mid new ended ran beside none = go (outcome_seen ended) refl
  where
    risen : (s : Slot) → s ≢ slots.Note → IsRisen (old s).faults (mid s).faults → ⊥
    risen s other h = none s (subst (λ v. IsRisen (old s).faults v.faults) (sym (beside s other)) h)

    reading : (s : Slot) → ReadFaultCause command old mid s → ⊥
    reading slots.Policy h = risen slots.Policy policy_beside h.1
    reading slots.Capture h = risen slots.Capture capture_beside h.1
    reading slots.Out h = h
    reading slots.Report h = h
    reading slots.Note h = h
    reading slots.Graph h = risen slots.Graph graph_beside h.risen

    writing : (s : Slot) → outcome_seen ended ≡ WriteFault s → WriteFaultCause command old mid s → ⊥
    writing slots.Out e h = risen slots.Out out_beside h.1
    writing slots.Report e h = risen slots.Report report_beside h.1
    writing slots.Note e h = ran.no_note_fault e
    writing slots.Policy e h = h
    writing slots.Capture e h = h
    writing slots.Graph e h = h

    go : (o : Outcome) → outcome_seen ended ≡ o → IsFinal (outcome_seen ended) ⊎ (outcome_seen ended ≡ OutOfMemory)
    go Done e = inl (subst IsFinal (sym e) tt)
    go (Usage fault) e = inl (subst IsFinal (sym e) tt)
    go (Policy fault) e = inl (subst IsFinal (sym e) tt)
    go (Graph fault) e = inl (subst IsFinal (sym e) tt)
    go (Capture fault) e = inl (subst IsFinal (sym e) tt)
    go (CaptureNg fault) e = inl (subst IsFinal (sym e) tt)
    go (ReadFault s) e = absurd (reading s (ran.read_faults s e))
    go (WriteFault s) e = absurd (writing s e (ran.write_faults s e))
    go OutOfMemory e = inr e

line_here : (due : Due) (text : List ℕ) (old mid new : SlotView) → mid ≡ old → text ≡ due.note → Appends text mid new → Appends due.note old new
line_here due text old mid new p q a = subst (λ v. Appends due.note v new) p (subst (λ t. Appends t mid new) q a)

-- if no count rose, the answer is what is due, if a final ending is due
due_answered : (due : Due) (command : Result Command UsageFault) (old mid new : Slot → SlotView) (ended : Ending) (result : Outcome) → Called command old mid new ended result →
    (IsFinal (outcome_seen ended) → EndsDue due old mid ended) → NoneRose old new → (IsDue due old new result × Appends due.note (old slots.Note) (new slots.Note)) ⊎ (result ≡ OutOfMemory)
due_answered due command old mid new ended result called ends none = by_notes called.notes
  where
    final : result ≡ outcome_seen ended → Appends (text_of ended) (mid slots.Note) (new slots.Note) → IsFinal (outcome_seen ended) ⊎ (outcome_seen ended ≡ OutOfMemory) →
        (IsDue due old new result × Appends due.note (old slots.Note) (new slots.Note)) ⊎ (result ≡ OutOfMemory)
    final is a (inl f) = inl (
      due_here due old mid new ended result (called.beside slots.Out out_beside) (called.beside slots.Report report_beside) is (ends f),
      line_here due (text_of ended) (old slots.Note) (mid slots.Note) (new slots.Note) called.ran.note_stays (ends f).note a,
    )
    final is a (inr m) = inr (is ∙ m)

    by_notes : Notes ended (mid slots.Note) (new slots.Note) result → (IsDue due old new result × Appends due.note (old slots.Note) (new slots.Note)) ⊎ (result ≡ OutOfMemory)
    by_notes (inl (is, a)) = final is a (no_fault command old mid new ended called.ran called.beside none)
    by_notes (inr (inl (is, a))) = inr is
    by_notes (inr (inr (is, r, a))) = absurd (none slots.Note (subst (λ v. IsRisen v.faults (new slots.Note).faults) called.ran.note_stays r))

pub called_answers : (command : Result Command UsageFault) (old mid new : Slot → SlotView) (ended : Ending) (result : Outcome) → Called command old mid new ended result → NoneRose old new →
    WhereRead command old (λ p g c. (IsDue (due_of_command command p g c) old new result × Appends (due_of_command command p g c).note (old slots.Note) (new slots.Note)) ⊎ (result ≡ OutOfMemory))
called_answers command old mid new ended result called none = if_read command old _ _
    (λ p g c ends. due_answered (due_of_command command p g c) command old mid new ended result called ends none)
    (read_under command old (IsFinal (outcome_seen ended)) (λ p g c. EndsDue (due_of_command command p g c) old mid ended) called.ran.due)

-- the line of work that ended so is the one that is due
seen_text : (command : Result Command UsageFault) (old mid : Slot → SlotView) (ended : Ending) → Ran command old mid ended → outcome_seen ended ≢ OutOfMemory →
    WhereRead command old (λ p g c. text_of ended ≡ note_due (outcome_seen ended) (due_of_command command p g c).note)
seen_text command old mid (Completed totals) ran some = if_read command old _ _ (λ p g c ends. ends.note) (ran.due tt)
seen_text command old mid (Shown text) ran some = if_read command old _ _ (λ p g c ends. ends.note) (ran.due tt)
seen_text command old mid (Refused refusal) ran some = if_read command old _ _ (λ p g c ends. ends.note) (ran.due tt)
seen_text command old mid (GraphRefused refusal) ran some = if_read command old _ _ (λ p g c ends. ends.note) (ran.due tt)
seen_text command old mid (Stopped Done) ran some = if_read command old _ _ (λ p g c ends. ends.note) (ran.due tt)
seen_text command old mid (Stopped (Usage fault)) ran some = if_read command old _ _ (λ p g c ends. ends.note) (ran.due tt)
seen_text command old mid (Stopped (Policy fault)) ran some = if_read command old _ _ (λ p g c ends. ends.note) (ran.due tt)
seen_text command old mid (Stopped (Graph fault)) ran some = if_read command old _ _ (λ p g c ends. ends.note) (ran.due tt)
seen_text command old mid (Stopped (Capture fault)) ran some = if_read command old _ _ (λ p g c ends. ends.note) (ran.due tt)
seen_text command old mid (Stopped (CaptureNg fault)) ran some = if_read command old _ _ (λ p g c ends. ends.note) (ran.due tt)
seen_text command old mid (Stopped (ReadFault s)) ran some = read_always command old _ (λ p g c. refl)
seen_text command old mid (Stopped (WriteFault slots.Out)) ran some = read_always command old _ (λ p g c. refl)
seen_text command old mid (Stopped (WriteFault slots.Report)) ran some = read_always command old _ (λ p g c. refl)
seen_text command old mid (Stopped (WriteFault slots.Note)) ran some = absurd (ran.no_note_fault refl)
seen_text command old mid (Stopped (WriteFault slots.Policy)) ran some = absurd (ran.write_faults slots.Policy refl)
seen_text command old mid (Stopped (WriteFault slots.Capture)) ran some = absurd (ran.write_faults slots.Capture refl)
seen_text command old mid (Stopped (WriteFault slots.Graph)) ran some = absurd (ran.write_faults slots.Graph refl)
seen_text command old mid (Stopped OutOfMemory) ran some = absurd (some refl)

-- the same if it couldn't be put: only work that was done is replaced by the fault of Note
unnoted_text : (command : Result Command UsageFault) (old mid : Slot → SlotView) (ended : Ending) → Ran command old mid ended → untold (outcome_seen ended) ≢ OutOfMemory →
    WhereRead command old (λ p g c. text_of ended ≡ note_due (untold (outcome_seen ended)) (due_of_command command p g c).note)
unnoted_text command old mid ended ran some = go (outcome_seen ended) refl
  where
    done : outcome_seen ended ≡ Done → WhereRead command old (λ p g c. text_of ended ≡ (due_of_command command p g c).note)
    done e = if_read command old _ _ (λ p g c ends. ends.note) (ran.due (subst IsFinal (sym e) tt))

    same : untold (outcome_seen ended) ≡ outcome_seen ended → WhereRead command old (λ p g c. text_of ended ≡ note_due (untold (outcome_seen ended)) (due_of_command command p g c).note)
    same e = subst (λ o. WhereRead command old (λ p g c. text_of ended ≡ note_due o (due_of_command command p g c).note)) (sym e) (seen_text command old mid ended ran (λ m. some (e ∙ m)))

    go : (o : Outcome) → outcome_seen ended ≡ o → WhereRead command old (λ p g c. text_of ended ≡ note_due (untold (outcome_seen ended)) (due_of_command command p g c).note)
    go Done e = subst (λ o. WhereRead command old (λ p g c. text_of ended ≡ note_due (untold o) (due_of_command command p g c).note)) (sym e) (done e)
    go (Usage fault) e = same (ap untold e ∙ sym e)
    go (Policy fault) e = same (ap untold e ∙ sym e)
    go (Graph fault) e = same (ap untold e ∙ sym e)
    go (Capture fault) e = same (ap untold e ∙ sym e)
    go (CaptureNg fault) e = same (ap untold e ∙ sym e)
    go (ReadFault s) e = same (ap untold e ∙ sym e)
    go (WriteFault s) e = same (ap untold e ∙ sym e)
    go OutOfMemory e = same (ap untold e ∙ sym e)

prefix_here : (text text' : List ℕ) (old mid new : SlotView) → mid ≡ old → text ≡ text' → AppendsPrefix text mid new → AppendsPrefix text' old new
prefix_here text text' old mid new p q a = subst (λ v. AppendsPrefix text' v new) p (subst (λ t. AppendsPrefix t mid new) q a)

pub whole_here : (text text' : List ℕ) (old mid new : SlotView) → mid ≡ old → text ≡ text' → Appends text mid new → Appends text' old new
whole_here text text' old mid new p q a = subst (λ v. Appends text' v new) p (subst (λ t. Appends t mid new) q a)

pub called_noted : (command : Result Command UsageFault) (old mid new : Slot → SlotView) (ended : Ending) (result : Outcome) → Called command old mid new ended result → result ≢ OutOfMemory →
    WhereRead command old (λ p g c. AppendsPrefix (note_due result (due_of_command command p g c).note) (old slots.Note) (new slots.Note))
called_noted command old mid new ended result called some = by_notes called.notes
  where
    by_notes : Notes ended (mid slots.Note) (new slots.Note) result →
        WhereRead command old (λ p g c. AppendsPrefix (note_due result (due_of_command command p g c).note) (old slots.Note) (new slots.Note))
    by_notes (inl (is, a)) = if_read command old _ _
        (λ p g c t. prefix_here (text_of ended) (note_due result (due_of_command command p g c).note) (old slots.Note) (mid slots.Note) (new slots.Note) called.ran.note_stays
        (t ∙ ap (λ o. note_due o (due_of_command command p g c).note) (sym is)) (prefix_whole (text_of ended) (mid slots.Note) (new slots.Note) a))
        (seen_text command old mid ended called.ran (λ m. some (is ∙ m)))
    by_notes (inr (inl (is, a))) = absurd (some is)
    by_notes (inr (inr (is, r, a))) = if_read command old _ _
        (λ p g c t. prefix_here (text_of ended) (note_due result (due_of_command command p g c).note) (old slots.Note) (mid slots.Note) (new slots.Note) called.ran.note_stays
        (t ∙ ap (λ o. note_due o (due_of_command command p g c).note) (sym is)) a)
        (unnoted_text command old mid ended called.ran (λ m. some (is ∙ m)))

pub called_noted_whole : (command : Result Command UsageFault) (old mid new : Slot → SlotView) (ended : Ending) (result : Outcome) → Called command old mid new ended result → result ≢ OutOfMemory →
    ¬ IsRisen (old slots.Note).faults (new slots.Note).faults → WhereRead command old (λ p g c. Appends (note_due result (due_of_command command p g c).note) (old slots.Note) (new slots.Note))
called_noted_whole command old mid new ended result called some calm = by_notes called.notes
  where
    by_notes : Notes ended (mid slots.Note) (new slots.Note) result → WhereRead command old (λ p g c. Appends (note_due result (due_of_command command p g c).note) (old slots.Note) (new slots.Note))
    by_notes (inl (is, a)) = if_read command old _ _
        (λ p g c t. whole_here (text_of ended) (note_due result (due_of_command command p g c).note) (old slots.Note) (mid slots.Note) (new slots.Note) called.ran.note_stays
        (t ∙ ap (λ o. note_due o (due_of_command command p g c).note) (sym is)) a)
        (seen_text command old mid ended called.ran (λ m. some (is ∙ m)))
    by_notes (inr (inl (is, a))) = absurd (some is)
    by_notes (inr (inr (is, r, a))) = absurd (calm (subst (λ v. IsRisen v.faults (new slots.Note).faults) called.ran.note_stays r))
