-- What holds if there was no memory to read the words.
use Rattle.std.proofs.Common.{◌≡◌, inl, inr, refl}
use Rattle.std.specs.Prelude.{ℕ, List, Option, Some, None, Result, Ok, Err}
use Rattle.nfp_outside.specs.declared.slot.Slot.{Slot}
use Rattle.nfp_outside.specs.declared.slot.Slot.TheVariants as slots
use Rattle.nfp_outside.specs.Outside.{SlotView}
use Rattle.command_words.specs.declared.usage.UsageFault.{UsageFault}
use Rattle.command_words.specs.Words.{Command, Run, Plan, Demo, Flows}
use Rattle.call_ending.specs.declared.ending.Ending.TheVariants.{Stopped}
use Rattle.call_ending.specs.declared.outcome.Outcome.TheVariants.{OutOfMemory}
use Rattle.nfp_run.specs.Answers.{AttachesDue, HasNames, LeavesPrefix, LeavesPrefixes}
use Rattle.nfp_run.specs.Due.{due_of_command}
use Rattle.nfp_run.specs.Ran.{Ran}
use Rattle.nfp_run.specs.Written.{Files}
use Rattle.nfp_run.proofs.TextsTold.{read_always}
use Rattle.nfp_run.proofs.CallCauses.{reaches_unmade}
use Rattle.nfp_run.proofs.HeldBytes.{untouched_same}

slot_prefix : (due : Option (List ℕ)) (slot : SlotView) → slot.name ≡ None → LeavesPrefix due slot slot
slot_prefix None slot free = untouched_same slot slot free refl
slot_prefix (Some bytes) slot free = inl (untouched_same slot slot free refl)

no_prefix : (due : Files) (old : Slot → SlotView) → ((s : Slot) → (old s).name ≡ None) → LeavesPrefixes due old old
no_prefix due old free = (slot_prefix due.out (old slots.Out) (free slots.Out), slot_prefix due.report (old slots.Report) (free slots.Report))

no_names : (command : Result Command UsageFault) (old : Slot → SlotView) → ((s : Slot) → (old s).name ≡ None) → HasNames command old
no_names (Err fault) old free = free
no_names (Ok command) old free = λ s. inl (free s)

none_attached : (command : Result Command UsageFault) (old : Slot → SlotView) → ((s : Slot) → (old s).name ≡ None) → AttachesDue command OutOfMemory old
none_attached (Ok (Run names options)) old free = tt
none_attached (Ok (Plan names)) old free = (free slots.Out, free slots.Report)
none_attached (Ok (Demo input options)) old free = (free slots.Out, free slots.Report)
none_attached (Ok (Flows names options)) old free = free slots.Report
none_attached (Err fault) old free = (free slots.Out, free slots.Report)

pub unread_ran : (command : Result Command UsageFault) (old : Slot → SlotView) → ((s : Slot) → (old s).name ≡ None) → Ran command old old (Stopped OutOfMemory)
unread_ran command old free = record {
  due = λ f. absurd f;
  prefixes = read_always command old _ (λ p g c. no_prefix (due_of_command command p g c).written old free);
  within = tt;
  names_are = no_names command old free;
  attached = none_attached command old free;
  report_behind = inl (free slots.Report);
  note_stays = refl;
  usage = λ fault x. absurd cc;
  usage_always = λ fault x. inr refl;
  refused = λ fault x. absurd cc;
  graph_refused = λ fault x. absurd cc;
  policy = reaches_unmade command old;
  drained = λ x. absurd cc;
  read_faults = λ s x. absurd cc;
  write_faults = λ s x. absurd cc;
  no_note_fault = λ x. cc;
}
