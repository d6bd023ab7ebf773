-- For proofs: the state after the words were done, before their line is put into Note.
use Rattle.std.specs.Prelude.{◌≡◌, ◌⊎◌, Result, Err}
use Rattle.nfp_outside.specs.declared.slot.Slot.{Slot}
use Rattle.nfp_outside.specs.declared.slot.Slot.TheVariants as slots
use Rattle.nfp_outside.specs.Outside.{SlotView}
use Rattle.graph_text.specs.declared.fault.GraphFault.{GraphFault}
use Rattle.policy_judge.specs.declared.fault.PolicyFault.{PolicyFault}
use Rattle.call_ending.specs.declared.ending.Ending.{Ending}
use Rattle.call_ending.specs.declared.outcome.Outcome.TheVariants.{Done, Usage, Policy, Graph, ReadFault, WriteFault, OutOfMemory}
use Rattle.command_words.specs.declared.usage.UsageFault.{UsageFault}
use Rattle.command_words.specs.Words.{Command}
use Rattle.nfp_run.specs.Due.{due_of_command}
use Rattle.call_ending.specs.Endings.{outcome_seen, CountsWithin}
use Rattle.nfp_run.specs.Closing.{EndsDue}
use Rattle.nfp_run.specs.Answers.{IsFinal, WhereRead, LeavesPrefixes, HasNames, AttachesDue, ReportBehindOut, ReachesCapture, ReadsToEnd, PolicyCause, GraphCause, ReadFaultCause, WriteFaultCause}

pub record Ran (command : Result Command UsageFault) (old new : Slot → SlotView) (ending : Ending) : Type 0 where
  pub due : IsFinal (outcome_seen ending) → WhereRead command old (λ p g c. EndsDue (due_of_command command p g c) old new ending)
  pub prefixes : WhereRead command old (λ p g c. LeavesPrefixes (due_of_command command p g c).written old new)
  pub within : CountsWithin ending
  pub names_are : HasNames command new
  pub attached : AttachesDue command (outcome_seen ending) new
  pub report_behind : ReportBehindOut new
  pub note_stays : new slots.Note ≡ old slots.Note
  pub usage : (fault : UsageFault) → outcome_seen ending ≡ Usage fault → command ≡ Err fault
  pub usage_always : (fault : UsageFault) → command ≡ Err fault → (outcome_seen ending ≡ Usage fault) ⊎ (outcome_seen ending ≡ OutOfMemory)
  pub refused : (fault : PolicyFault) → outcome_seen ending ≡ Policy fault → PolicyCause command old new fault
  pub graph_refused : (fault : GraphFault) → outcome_seen ending ≡ Graph fault → GraphCause command old new fault
  pub policy : ReachesCapture command (outcome_seen ending) old
  pub drained : outcome_seen ending ≡ Done → ReadsToEnd command new
  pub read_faults : (s : Slot) → outcome_seen ending ≡ ReadFault s → ReadFaultCause command old new s
  pub write_faults : (s : Slot) → outcome_seen ending ≡ WriteFault s → WriteFaultCause command old new s
  pub no_note_fault : outcome_seen ending ≡ WriteFault slots.Note → ⊥
