-- The state after the words were done, by the outcome.
use Rattle.std.proofs.Common.{◌≡◌, ◌≢◌, ◌⊎◌, ◌∙◌, inl, inr, ℕ, List, [], refl, ap, sym, subst}
use Rattle.std.specs.Prelude.{Some, None, Result, Ok, Err}
use Rattle.nfp_outside.specs.declared.slot.Slot.{Slot}
use Rattle.nfp_outside.specs.declared.slot.Slot.TheVariants as slots
use Rattle.nfp_outside.specs.Outside.{SlotView}
use Rattle.policy_judge.specs.Judging.{judged}
use Rattle.policy_judge.specs.declared.fault.PolicyFault.{PolicyFault}
use Rattle.policy_judge.specs.declared.fault.Refusal.{Refusal}
use Rattle.policy_judge.specs.declared.judged.Judged.{Judged}
use Rattle.command_words.specs.WhyWords.{WhyAsked}
use Rattle.command_words.specs.declared.usage.UsageFault.{UsageFault}
use Rattle.call_ending.specs.Endings.{outcome_seen, text_of}
use Rattle.call_ending.specs.Left.{IsFaultOf, IsUntouched, LeavesPrefix}
use Rattle.call_ending.specs.Notes.{read_fault_text, usage_text, write_fault_text}
use Rattle.call_ending.specs.Reading.{EndsAtPolicy}
use Rattle.call_ending.specs.declared.ending.Ending.{Ending}
use Rattle.call_ending.specs.declared.ending.Ending.TheVariants.{Completed, Shown, Refused, GraphRefused, Stopped}
use Rattle.call_ending.specs.declared.outcome.Outcome.{Outcome}
use Rattle.call_ending.specs.declared.outcome.Outcome.TheVariants.{Done, Usage, Policy, Graph, Capture, CaptureNg, ReadFault, WriteFault, OutOfMemory}
use Rattle.why_call.specs.Answers.{AttachesDue, HasNames, PolicyCause, ReadFaultCause, ReadsCapture, ReadsToEnd, WhereRead, WriteFaultCause}
use Rattle.why_call.specs.Due.{due_of_judged, due_of_why}
use Rattle.why_call.specs.Ran.{EndsDue, Ran}
use Rattle.why_call.proofs.HeldBytes.{untouched_prefix, untouched_same}
use Rattle.why_call.proofs.OtherSlots.{capture_is_not_policy, note_is_not_policy, report_is_not_policy}
use Rattle.why_call.proofs.ReadBytes.{if_of, if_told, read_always, told_always, told_of}

-- the result that is due is this
abbrev pub IsDueHere : Result WhyAsked UsageFault → (Slot → SlotView) → (Slot → SlotView) → Outcome → List ℕ → Type 0
IsDueHere asked old new outcome line = WhereRead asked old (λ p c. EndsDue (due_of_why asked p c) old new outcome line)

-- the cause of an outcome
abbrev pub HasCause : Result WhyAsked UsageFault → (Slot → SlotView) → (Slot → SlotView) → Outcome → List ℕ → Type 0
HasCause asked old new Done line = ReadsCapture asked old × ReadsToEnd new × IsDueHere asked old new Done line
HasCause asked old new (Usage fault) line = (asked ≡ Err fault) × IsDueHere asked old new (Usage fault) line
HasCause asked old new (Policy fault) line = PolicyCause asked old new fault × IsDueHere asked old new (Policy fault) line
HasCause asked old new (Graph fault) line = ⊥
HasCause asked old new (Capture fault) line = ReadsCapture asked old × IsDueHere asked old new (Capture fault) line
HasCause asked old new (CaptureNg fault) line = ReadsCapture asked old × IsDueHere asked old new (CaptureNg fault) line
HasCause asked old new (ReadFault s) line = ReadFaultCause asked old new s × (line ≡ read_fault_text s)
HasCause asked old new (WriteFault s) line = WriteFaultCause asked old new s × (s ≢ slots.Note) × (line ≡ write_fault_text s)
HasCause asked old new OutOfMemory line = line ≡ []

-- What is known beside it.
pub record Stays (asked : Result WhyAsked UsageFault) (old new : Slot → SlotView) (outcome : Outcome) : Type 0 where
  pub prefix_of : WhereRead asked old (λ p c. LeavesPrefix (due_of_why asked p c).report (old slots.Report) (new slots.Report))
  pub names_of : HasNames asked new
  pub attaches : AttachesDue asked outcome (new slots.Report)
  pub note : new slots.Note ≡ old slots.Note
  pub refuses : (fault : UsageFault) → asked ≡ Err fault → (outcome ≡ Usage fault) ⊎ (outcome ≡ OutOfMemory)

same_usage : (a c : UsageFault) → Usage a ≡ Usage c → a ≡ c
same_usage a c x = cc

same_fault : (a c : PolicyFault) → Policy a ≡ Policy c → a ≡ c
same_fault a c x = cc

same_read : (a c : Slot) → ReadFault a ≡ ReadFault c → a ≡ c
same_read a c x = cc

same_write : (a c : Slot) → WriteFault a ≡ WriteFault c → a ≡ c
same_write a c x = cc

pub ran_by : (asked : Result WhyAsked UsageFault) (old new : Slot → SlotView) (outcome : Outcome) (line : List ℕ) → Stays asked old new outcome → HasCause asked old new outcome line →
    Ran asked old new outcome line
ran_by asked old new Done line stays cause = record {
  due = λ final. cause.2;
  prefix = stays.prefix_of;
  fault_line = tt;
  names_are = stays.names_of;
  attached = stays.attaches;
  note_stays = stays.note;
  usage = λ other x. absurd cc;
  usage_always = stays.refuses;
  refused = λ other x. absurd cc;
  policy = cause.0;
  drained = λ x. cause.1;
  read_faults = λ other x. absurd cc;
  write_faults = λ other x. absurd cc;
  no_note_fault = λ x. cc;
}
ran_by asked old new (Usage fault) line stays cause = record {
  due = λ final. cause.1;
  prefix = stays.prefix_of;
  fault_line = tt;
  names_are = stays.names_of;
  attached = stays.attaches;
  note_stays = stays.note;
  usage = λ other x. cause.0 ∙ ap Err (same_usage fault other x);
  usage_always = stays.refuses;
  refused = λ other x. absurd cc;
  policy = tt;
  drained = λ x. absurd cc;
  read_faults = λ other x. absurd cc;
  write_faults = λ other x. absurd cc;
  no_note_fault = λ x. cc;
}
ran_by asked old new (Policy fault) line stays cause = record {
  due = λ final. cause.1;
  prefix = stays.prefix_of;
  fault_line = tt;
  names_are = stays.names_of;
  attached = stays.attaches;
  note_stays = stays.note;
  usage = λ other x. absurd cc;
  usage_always = stays.refuses;
  refused = λ other x. subst (PolicyCause asked old new) (same_fault fault other x) cause.0;
  policy = tt;
  drained = λ x. absurd cc;
  read_faults = λ other x. absurd cc;
  write_faults = λ other x. absurd cc;
  no_note_fault = λ x. cc;
}
ran_by asked old new (Capture fault) line stays cause = record {
  due = λ final. cause.1;
  prefix = stays.prefix_of;
  fault_line = tt;
  names_are = stays.names_of;
  attached = stays.attaches;
  note_stays = stays.note;
  usage = λ other x. absurd cc;
  usage_always = stays.refuses;
  refused = λ other x. absurd cc;
  policy = cause.0;
  drained = λ x. absurd cc;
  read_faults = λ other x. absurd cc;
  write_faults = λ other x. absurd cc;
  no_note_fault = λ x. cc;
}
ran_by asked old new (CaptureNg fault) line stays cause = record {
  due = λ final. cause.1;
  prefix = stays.prefix_of;
  fault_line = tt;
  names_are = stays.names_of;
  attached = stays.attaches;
  note_stays = stays.note;
  usage = λ other x. absurd cc;
  usage_always = stays.refuses;
  refused = λ other x. absurd cc;
  policy = cause.0;
  drained = λ x. absurd cc;
  read_faults = λ other x. absurd cc;
  write_faults = λ other x. absurd cc;
  no_note_fault = λ x. cc;
}
ran_by asked old new (ReadFault s) line stays cause = record {
  due = λ final. absurd final;
  prefix = stays.prefix_of;
  fault_line = cause.1;
  names_are = stays.names_of;
  attached = stays.attaches;
  note_stays = stays.note;
  usage = λ other x. absurd cc;
  usage_always = stays.refuses;
  refused = λ other x. absurd cc;
  policy = tt;
  drained = λ x. absurd cc;
  read_faults = λ other x. subst (ReadFaultCause asked old new) (same_read s other x) cause.0;
  write_faults = λ other x. absurd cc;
  no_note_fault = λ x. cc;
}
ran_by asked old new (WriteFault s) line stays cause = record {
  due = λ final. absurd final;
  prefix = stays.prefix_of;
  fault_line = cause.2;
  names_are = stays.names_of;
  attached = stays.attaches;
  note_stays = stays.note;
  usage = λ other x. absurd cc;
  usage_always = stays.refuses;
  refused = λ other x. absurd cc;
  policy = tt;
  drained = λ x. absurd cc;
  read_faults = λ other x. absurd cc;
  write_faults = λ other x. subst (WriteFaultCause asked old new) (same_write s other x) cause.0;
  no_note_fault = λ x. cause.1 (same_write s slots.Note x);
}
ran_by asked old new OutOfMemory line stays cause = record {
  due = λ final. absurd final;
  prefix = stays.prefix_of;
  fault_line = cause;
  names_are = stays.names_of;
  attached = stays.attaches;
  note_stays = stays.note;
  usage = λ other x. absurd cc;
  usage_always = stays.refuses;
  refused = λ other x. absurd cc;
  policy = tt;
  drained = λ x. absurd cc;
  read_faults = λ other x. absurd cc;
  write_faults = λ other x. absurd cc;
  no_note_fault = λ x. cc;
}
ran_by asked old new (Graph fault) line stays cause = absurd cause

-- ---- the words

-- refused words, or words for which there is no memory: nothing was touched
untouched_stays : (asked : Result WhyAsked UsageFault) (old : Slot → SlotView) (outcome : Outcome) → ((s : Slot) → (old s).name ≡ None) → AttachesDue asked outcome (old slots.Report) →
    ((fault : UsageFault) → asked ≡ Err fault → (outcome ≡ Usage fault) ⊎ (outcome ≡ OutOfMemory)) → Stays asked old old outcome
untouched_stays asked old outcome free attaches refuses = record {
  prefix_of = read_always asked old _ (λ p c. untouched_prefix (due_of_why asked p c).report (old slots.Report) (old slots.Report) (untouched_same (old slots.Report) (old slots.Report) (free slots.Report) refl));
  names_of = none_named asked;
  attaches = attaches;
  note = refl;
  refuses = refuses;
}
  where
    none_named : (n : Result WhyAsked UsageFault) → HasNames n old
    none_named (Err fault) = free
    none_named (Ok n) = λ s. inl (free s)

unmade_attaches : (asked : Result WhyAsked UsageFault) (report : SlotView) → report.name ≡ None → AttachesDue asked OutOfMemory report
unmade_attaches (Ok asked) report free = tt
unmade_attaches (Err fault) report free = free

pub unread_ran : (asked : Result WhyAsked UsageFault) (old : Slot → SlotView) → ((s : Slot) → (old s).name ≡ None) → Ran asked old old OutOfMemory []
unread_ran asked old free = ran_by asked old old OutOfMemory []
    (untouched_stays asked old OutOfMemory free (unmade_attaches asked (old slots.Report) (free slots.Report)) (λ fault e. inr refl)) refl

pub usage_ran : (asked : Result WhyAsked UsageFault) (old : Slot → SlotView) (fault : UsageFault) → ((s : Slot) → (old s).name ≡ None) → asked ≡ Err fault →
    Ran asked old old (Usage fault) (usage_text fault)
usage_ran asked old fault free is = subst (λ a. Ran a old old (Usage fault) (usage_text fault)) (sym is)
    (ran_by (Err fault) old old (Usage fault) (usage_text fault)
    (untouched_stays (Err fault) old (Usage fault) free (free slots.Report) (λ other e. inl (ap Usage (same fault other e))))
    (refl, λ p c. record { answer = refl; left = untouched_same (old slots.Report) (old slots.Report) (free slots.Report) refl; note = refl }))
  where
    same : (a c : UsageFault) → ◌≡◌ {A = Result WhyAsked UsageFault} (Err a) (Err c) → a ≡ c
    same a c x = cc

-- ---- the policy

-- Only the policy was touched.
pub record OnlyPolicy (asked : WhyAsked) (old new : Slot → SlotView) : Type 0 where
  pub free : (s : Slot) → (old s).name ≡ None
  pub policy_name : ((new slots.Policy).name ≡ None) ⊎ ((new slots.Policy).name ≡ Some asked.files.policy)
  pub others : (s : Slot) → s ≢ slots.Policy → new s ≡ old s

only_name : (asked : WhyAsked) (old new : Slot → SlotView) → OnlyPolicy asked old new → (s : Slot) → s ≢ slots.Policy → (new s).name ≡ None
only_name asked old new only s other = ap (λ v. v.name) (only.others s other) ∙ only.free s

report_untouched : (asked : WhyAsked) (old new : Slot → SlotView) → OnlyPolicy asked old new → IsUntouched (old slots.Report) (new slots.Report)
report_untouched asked old new only = untouched_same (old slots.Report) (new slots.Report) (only.free slots.Report) (only.others slots.Report report_is_not_policy)

only_stays : (asked : WhyAsked) (old new : Slot → SlotView) (outcome : Outcome) → OnlyPolicy asked old new → AttachesDue (Ok asked) outcome (new slots.Report) → Stays (Ok asked) old new outcome
only_stays asked old new outcome only attaches = record {
  prefix_of = read_always (Ok asked) old _ (λ p c. untouched_prefix (due_of_why (Ok asked) p c).report (old slots.Report) (new slots.Report) (report_untouched asked old new only));
  names_of = names;
  attaches = attaches;
  note = only.others slots.Note note_is_not_policy;
  refuses = λ fault e. absurd cc;
}
  where
    names : HasNames (Ok asked) new
    names slots.Policy = only.policy_name
    names slots.Capture = inl (only_name asked old new only slots.Capture capture_is_not_policy)
    names slots.Out = inl (only_name asked old new only slots.Out (λ h. cc))
    names slots.Report = inl (only_name asked old new only slots.Report report_is_not_policy)
    names slots.Note = inl (only_name asked old new only slots.Note note_is_not_policy)
    names slots.Graph = inl (only_name asked old new only slots.Graph (λ h. cc))

refusal_due : (asked : WhyAsked) (old new : Slot → SlotView) (refusal : Refusal) → IsUntouched (old slots.Report) (new slots.Report) → (p : List ℕ) → judged p ≡ Err refusal → (c : List ℕ) →
    EndsDue (due_of_why (Ok asked) p c) old new (Policy refusal.fault) refusal.line
refusal_due asked old new refusal left p is c =
    subst (λ r. EndsDue (due_of_judged asked.record_number r c) old new (Policy refusal.fault) refusal.line) (sym is) (record { answer = refl; left = left; note = refl })

told_fault : (refusal : Refusal) (r : Result Judged Refusal) → r ≡ Err refusal → IsFaultOf refusal.fault r
told_fault refusal r is = subst (IsFaultOf refusal.fault) (sym is) refl

pub policy_ran : (asked : WhyAsked) (old new : Slot → SlotView) (ending : Ending) → OnlyPolicy asked old new → EndsAtPolicy (old slots.Policy) (new slots.Policy) ending →
    Ran (Ok asked) old new (outcome_seen ending) (text_of ending)
policy_ran asked old new (Refused refusal) only h = ran_by (Ok asked) old new (Policy refusal.fault) refusal.line
    (only_stays asked old new (Policy refusal.fault) only (only_name asked old new only slots.Report report_is_not_policy)) (
      (tt, if_of (old slots.Policy).bytes _ _ (λ p is. told_fault refusal (judged p) is) h, only_name asked old new only slots.Capture capture_is_not_policy),
      if_told (old slots.Policy).bytes _ _ (λ p is. told_always (old slots.Capture).bytes _ (refusal_due asked old new refusal (report_untouched asked old new only) p is)) (told_of (old slots.Policy).bytes _ h),
    )
policy_ran asked old new (Stopped (ReadFault s)) only h = subst (λ x. Ran (Ok asked) old new (ReadFault x) (read_fault_text x)) (sym h.0)
    (ran_by (Ok asked) old new (ReadFault slots.Policy) (read_fault_text slots.Policy)
    (only_stays asked old new (ReadFault slots.Policy) only (only_name asked old new only slots.Report report_is_not_policy))
    ((tt, h.1, only_name asked old new only slots.Capture capture_is_not_policy), refl))
policy_ran asked old new (Stopped OutOfMemory) only h = ran_by (Ok asked) old new OutOfMemory [] (only_stays asked old new OutOfMemory only tt) refl
policy_ran asked old new (Stopped Done) only h = absurd h
policy_ran asked old new (Stopped (Usage fault)) only h = absurd h
policy_ran asked old new (Stopped (Policy fault)) only h = absurd h
policy_ran asked old new (Stopped (Graph fault)) only h = absurd h
policy_ran asked old new (Stopped (Capture fault)) only h = absurd h
policy_ran asked old new (Stopped (CaptureNg fault)) only h = absurd h
policy_ran asked old new (Stopped (WriteFault s)) only h = absurd h
policy_ran asked old new (Completed totals) only h = absurd h
policy_ran asked old new (Shown text) only h = absurd h
policy_ran asked old new (GraphRefused refusal) only h = absurd h
