-- What a call that ended at the policy or at the graphs leaves.
use Rattle.std.proofs.Common.{◌≡◌, ◌≢◌, ◌∙◌, inl, ℕ, List, refl, ap, sym, subst}
use Rattle.std.specs.Prelude.{Option, Some, None, Result, Err}
use Rattle.nfp_outside.specs.declared.slot.Slot.{Slot}
use Rattle.nfp_outside.specs.declared.slot.Slot.TheVariants as slots
use Rattle.nfp_outside.specs.Outside.{SlotView}
use Rattle.command_words.specs.declared.usage.UsageFault.{UsageFault}
use Rattle.command_words.specs.Words.{Command}
use Rattle.graph_text.specs.declared.fault.GraphFault.{GraphFault}
use Rattle.policy_judge.specs.declared.fault.PolicyFault.{PolicyFault}
use Rattle.policy_judge.specs.declared.fault.Refusal.{Refusal}
use Rattle.policy_judge.specs.declared.judged.Judged.{Judged}
use Rattle.policy_judge.specs.Judging.{judged}
use Rattle.nfp_run.specs.Answers.{AttachesDue, GraphCause, HasNames, IsFaultOf, IsGraphFaultOf, IsUntouched, LeavesPrefix, LeavesPrefixes, NoneAttached, ReachesCapture, ReadFaultCause, ReadsGraph, ReadsPolicy, WhereRead, WhereTexts}
use Rattle.nfp_run.specs.Closing.{EndsDue}
use Rattle.call_ending.specs.Endings.{outcome_seen}
use Rattle.nfp_run.specs.Due.{due_of_command, due_of_fault}
use Rattle.nfp_run.specs.Preparing.{ByGraph, ByPolicy, Unprepared, prepared, prepared_by}
use Rattle.nfp_run.specs.Ran.{Ran}
use Rattle.nfp_run.specs.Reading.{EndsAtTexts, GraphFails, TextUnread}
use Rattle.nfp_run.specs.Written.{Files}
use Rattle.call_ending.specs.declared.ending.Ending.{Ending}
use Rattle.call_ending.specs.declared.ending.Ending.TheVariants.{Completed, Shown, Refused, GraphRefused, Stopped}
use Rattle.call_ending.specs.declared.ending.GraphRefusal.{GraphRefusal}
use Rattle.call_ending.specs.declared.outcome.Outcome.TheVariants.{Done, Usage, Policy, Graph, Capture, CaptureNg, ReadFault, WriteFault, OutOfMemory}
use Rattle.nfp_run.specs.declared.prepared.Prepared.{Prepared}
use Rattle.nfp_run.proofs.HeldBytes.{untouched_same}
use Rattle.nfp_run.proofs.OtherSlots.{capture_is_not_graph, capture_is_not_policy, note_is_not_graph, note_is_not_policy, out_is_not_graph, out_is_not_policy, report_is_not_graph, report_is_not_policy}
use Rattle.nfp_run.proofs.TextsTold.{if_of, if_texts, read_always, texts_by_policy, told_of}

-- Out, Report, Note and the capture were not touched: only the policy and the graphs were.
pub record Beside (old new : Slot → SlotView) : Type 0 where
  pub free : (s : Slot) → (old s).name ≡ None
  pub others : (s : Slot) → s ≢ slots.Policy → s ≢ slots.Graph → new s ≡ old s

pub beside_name : (old new : Slot → SlotView) → Beside old new → (s : Slot) → s ≢ slots.Policy → s ≢ slots.Graph → (new s).name ≡ None
beside_name old new b s other apart = ap (λ v. v.name) (b.others s other apart) ∙ b.free s

pub leaves_both : (old new : Slot → SlotView) → Beside old new → IsUntouched (old slots.Out) (new slots.Out) × IsUntouched (old slots.Report) (new slots.Report)
leaves_both old new b = (
  untouched_same (old slots.Out) (new slots.Out) (b.free slots.Out) (b.others slots.Out out_is_not_policy out_is_not_graph),
  untouched_same (old slots.Report) (new slots.Report) (b.free slots.Report) (b.others slots.Report report_is_not_policy report_is_not_graph),
)

pub none_attached : (old new : Slot → SlotView) → Beside old new → NoneAttached new
none_attached old new b = (beside_name old new b slots.Out out_is_not_policy out_is_not_graph, beside_name old new b slots.Report report_is_not_policy report_is_not_graph)

no_capture : (old new : Slot → SlotView) → Beside old new → (new slots.Capture).name ≡ None
no_capture old new b = beside_name old new b slots.Capture capture_is_not_policy capture_is_not_graph

-- a slot that isn't touched holds a prefix of whatever is due
pub untouched_prefix : (due : Option (List ℕ)) (old new : SlotView) → IsUntouched old new → LeavesPrefix due old new
untouched_prefix None old new untouched = untouched
untouched_prefix (Some bytes) old new untouched = inl untouched

pub untouched_prefixes : (due : Files) (old new : Slot → SlotView) → IsUntouched (old slots.Out) (new slots.Out) × IsUntouched (old slots.Report) (new slots.Report) → LeavesPrefixes due old new
untouched_prefixes due old new (a, b) = (untouched_prefix due.out (old slots.Out) (new slots.Out) a, untouched_prefix due.report (old slots.Report) (new slots.Report) b)

-- the policy and the graphs have this fault, and this end is due for it
pub record IsFaultDue (named : Option (List ℕ)) (old new : Slot → SlotView) (ending : Ending) (p g : List ℕ) : Type 0 where
  pub fault : Unprepared
  pub is : prepared named p g ≡ Err fault
  pub ends : EndsDue (due_of_fault fault) old new ending

-- What is known about a command that reads the policy, and the graphs that have this name.
pub record IsTextCommand (command : Result Command UsageFault) (named : Option (List ℕ)) (old new : Slot → SlotView) : Type 0 where
  pub accepted : (fault : UsageFault) → command ≡ Err fault → ⊥
  pub policy : ReadsPolicy command
  pub graph : (name : List ℕ) → named ≡ Some name → ReadsGraph command (Some name)
  pub names : HasNames command new
  pub attaches : (e : Ending) → EndsAtTexts named old new e → AttachesDue command (outcome_seen e) new
  pub reaches : (e : Ending) → EndsAtTexts named old new e → ReachesCapture command (outcome_seen e) old
  pub due : (e : Ending) → WhereTexts named old (IsFaultDue named old new e) → WhereRead command old (λ p g c. EndsDue (due_of_command command p g c) old new e)

told_fault : (fault : PolicyFault) (refusal : Refusal) (r : Result Judged Refusal) → r ≡ Err refusal → refusal.fault ≡ fault → IsFaultOf fault r
told_fault fault refusal r is same = subst (IsFaultOf fault) (sym is) same

told_graph_fault : (fault : GraphFault) (refusal : GraphRefusal) (r : Result Prepared Unprepared) → r ≡ Err (ByGraph refusal) → refusal.fault ≡ fault → IsGraphFaultOf fault r
told_graph_fault fault refusal r is same = subst (IsGraphFaultOf fault) (sym is) same

same_fault : (a c : PolicyFault) → Policy a ≡ Policy c → a ≡ c
same_fault a c x = cc

same_graph_fault : (a c : GraphFault) → Graph a ≡ Graph c → a ≡ c
same_graph_fault a c x = cc

same_slot : (a c : Slot) → ReadFault a ≡ ReadFault c → a ≡ c
same_slot a c x = cc

refusal_due : (named : Option (List ℕ)) (old new : Slot → SlotView) (refusal : Refusal) (p g : List ℕ) → Beside old new → judged p ≡ Err refusal → IsFaultDue named old new (Refused refusal) p g
refusal_due named old new refusal p g b is = record {
  fault = ByPolicy refusal;
  is = ap (λ r. prepared_by named r g) is;
  ends = record { answer = refl; left = leaves_both old new b; note = refl };
}

graph_due : (named : Option (List ℕ)) (old new : Slot → SlotView) (refusal : GraphRefusal) (p g : List ℕ) → Beside old new → prepared named p g ≡ Err (ByGraph refusal) →
    IsFaultDue named old new (GraphRefused refusal) p g
graph_due named old new refusal p g b is = record { fault = ByGraph refusal; is = is; ends = record { answer = refl; left = leaves_both old new b; note = refl } }

graph_cause : (command : Result Command UsageFault) (named : Option (List ℕ)) (old new : Slot → SlotView) (refusal : GraphRefusal) (fault : GraphFault) → IsTextCommand command named old new →
    Beside old new →
    GraphFails named old refusal → refusal.fault ≡ fault → GraphCause command old new fault
graph_cause command named old new refusal fault t b fails same = record {
  name = fails.name;
  named = t.graph fails.name fails.is;
  policy = fails.policy;
  told = subst (λ n. WhereTexts n old (λ p g. IsGraphFaultOf fault (prepared n p g))) fails.is
      (if_texts named old _ _ (λ p g is. told_graph_fault fault refusal (prepared named p g) is same) fails.told);
  no_capture = no_capture old new b;
}

text_cause : (command : Result Command UsageFault) (named : Option (List ℕ)) (old new : Slot → SlotView) (s : Slot) → IsTextCommand command named old new → Beside old new →
    TextUnread named old new s → ReadFaultCause command old new s
text_cause command named old new slots.Policy t b risen = (t.policy, risen, no_capture old new b)
text_cause command named old new slots.Graph t b unread =
    record { name = unread.name; named = t.graph unread.name unread.is; policy = unread.policy; risen = unread.risen; no_capture = no_capture old new b }
text_cause command named old new slots.Capture t b unread = absurd unread
text_cause command named old new slots.Out t b unread = absurd unread
text_cause command named old new slots.Report t b unread = absurd unread
text_cause command named old new slots.Note t b unread = absurd unread

-- the state after a call that ended so
pub texts_ran : (command : Result Command UsageFault) (named : Option (List ℕ)) (old new : Slot → SlotView) (ending : Ending) → IsTextCommand command named old new → Beside old new →
    EndsAtTexts named old new ending → Ran command old new ending
texts_ran command named old new ending t b ends = go ending ends
  where
    prefixes : WhereRead command old (λ p g c. LeavesPrefixes (due_of_command command p g c).written old new)
    prefixes = read_always command old _ (λ p g c. untouched_prefixes (due_of_command command p g c).written old new (leaves_both old new b))

    note_stays : new slots.Note ≡ old slots.Note
    note_stays = b.others slots.Note note_is_not_policy note_is_not_graph

    go : (e : Ending) → EndsAtTexts named old new e → Ran command old new e
    go (Refused refusal) h = record {
      due = λ final. t.due (Refused refusal) (texts_by_policy named old _ (IsFaultDue named old new (Refused refusal)) (λ p g is. refusal_due named old new refusal p g b is) (told_of (old slots.Policy).bytes _ h));
      prefixes = prefixes;
      within = tt;
      names_are = t.names;
      attached = t.attaches (Refused refusal) h;
      report_behind = inl (none_attached old new b).1;
      note_stays = note_stays;
      usage = λ fault x. absurd cc;
      usage_always = λ fault x. absurd (t.accepted fault x);
      refused = λ fault x. (t.policy, if_of (old slots.Policy).bytes _ _ (λ p is. told_fault fault refusal (judged p) is (same_fault refusal.fault fault x)) h, no_capture old new b);
      graph_refused = λ fault x. absurd cc;
      policy = t.reaches (Refused refusal) h;
      drained = λ x. absurd cc;
      read_faults = λ s x. absurd cc;
      write_faults = λ s x. absurd cc;
      no_note_fault = λ x. cc;
    }
    go (GraphRefused refusal) h = record {
      due = λ final. t.due (GraphRefused refusal) (if_texts named old _ (IsFaultDue named old new (GraphRefused refusal)) (λ p g is. graph_due named old new refusal p g b is) h.told);
      prefixes = prefixes;
      within = tt;
      names_are = t.names;
      attached = t.attaches (GraphRefused refusal) h;
      report_behind = inl (none_attached old new b).1;
      note_stays = note_stays;
      usage = λ fault x. absurd cc;
      usage_always = λ fault x. absurd (t.accepted fault x);
      refused = λ fault x. absurd cc;
      graph_refused = λ fault x. graph_cause command named old new refusal fault t b h (same_graph_fault refusal.fault fault x);
      policy = t.reaches (GraphRefused refusal) h;
      drained = λ x. absurd cc;
      read_faults = λ s x. absurd cc;
      write_faults = λ s x. absurd cc;
      no_note_fault = λ x. cc;
    }
    go (Stopped (ReadFault s)) h = record {
      due = λ final. absurd final;
      prefixes = prefixes;
      within = tt;
      names_are = t.names;
      attached = t.attaches (Stopped (ReadFault s)) h;
      report_behind = inl (none_attached old new b).1;
      note_stays = note_stays;
      usage = λ fault x. absurd cc;
      usage_always = λ fault x. absurd (t.accepted fault x);
      refused = λ fault x. absurd cc;
      graph_refused = λ fault x. absurd cc;
      policy = t.reaches (Stopped (ReadFault s)) h;
      drained = λ x. absurd cc;
      read_faults = λ u x. subst (ReadFaultCause command old new) (same_slot s u x) (text_cause command named old new s t b h);
      write_faults = λ u x. absurd cc;
      no_note_fault = λ x. cc;
    }
    go (Stopped OutOfMemory) h = record {
      due = λ final. absurd final;
      prefixes = prefixes;
      within = tt;
      names_are = t.names;
      attached = t.attaches (Stopped OutOfMemory) h;
      report_behind = inl (none_attached old new b).1;
      note_stays = note_stays;
      usage = λ fault x. absurd cc;
      usage_always = λ fault x. absurd (t.accepted fault x);
      refused = λ fault x. absurd cc;
      graph_refused = λ fault x. absurd cc;
      policy = t.reaches (Stopped OutOfMemory) h;
      drained = λ x. absurd cc;
      read_faults = λ u x. absurd cc;
      write_faults = λ u x. absurd cc;
      no_note_fault = λ x. cc;
    }
    go (Stopped Done) h = absurd h
    go (Stopped (Usage fault)) h = absurd h
    go (Stopped (Policy fault)) h = absurd h
    go (Stopped (Graph fault)) h = absurd h
    go (Stopped (Capture fault)) h = absurd h
    go (Stopped (CaptureNg fault)) h = absurd h
    go (Stopped (WriteFault s)) h = absurd h
    go (Completed totals) h = absurd h
    go (Shown text) h = absurd h
