-- For proofs: how a call ended, and the state before its line is put into Note.
use Rattle.std.specs.Prelude.{◌≡◌, ◌⊎◌, ◌≢◌, ℕ, List, [], Result, Err}
use Rattle.nfp_outside.specs.declared.slot.Slot.{Slot}
use Rattle.nfp_outside.specs.declared.slot.Slot.TheVariants as slots
use Rattle.nfp_outside.specs.Outside.{SlotView}
use Rattle.policy_judge.specs.declared.fault.PolicyFault.{PolicyFault}
use Rattle.command_words.specs.WhyWords.{WhyAsked}
use Rattle.command_words.specs.declared.usage.UsageFault.{UsageFault}
use Rattle.call_ending.specs.Endings.{CountsWithin, NotesLine, outcome_seen, text_of}
use Rattle.call_ending.specs.Left.{IsFinal, LeavesPrefix, LeavesSlot}
use Rattle.call_ending.specs.Notes.{read_fault_text, write_fault_text}
use Rattle.call_ending.specs.declared.outcome.Outcome.{Outcome}
use Rattle.call_ending.specs.declared.outcome.Outcome.TheVariants.{Done, Usage, Policy, ReadFault, WriteFault, OutOfMemory}
use Rattle.why_call.specs.Answers.{AttachesDue, HasNames, PolicyCause, ReachesCapture, ReadFaultCause, ReadsToEnd, WhereRead, WriteFaultCause}
use Rattle.why_call.specs.Due.{WhyDue, due_of_why}
use Rattle.why_call.specs.declared.ending.WhyEnding.{WhyEnding}
use Rattle.why_call.specs.declared.ending.WhyEnding.TheVariants.{Ended, Traced}

-- the outcome of work that ended so
abbrev pub why_outcome : WhyEnding → Outcome
why_outcome (Traced outcome line) = outcome
why_outcome (Ended ending) = outcome_seen ending

-- what is put into Note for it
abbrev pub why_line : WhyEnding → List ℕ
why_line (Traced outcome line) = line
why_line (Ended ending) = text_of ending

abbrev pub IsWithin : WhyEnding → Type 0
IsWithin (Traced outcome line) = Unit {0}
IsWithin (Ended ending) = CountsWithin ending

-- An outcome that the words, the policy and the capture determine is the due one, and so is its line.
pub record EndsDue (due : WhyDue) (old new : Slot → SlotView) (outcome : Outcome) (line : List ℕ) : Type 0 where
  pub answer : outcome ≡ due.outcome
  pub left : LeavesSlot due.report (old slots.Report) (new slots.Report)
  pub note : line ≡ due.note

-- the line of any other outcome: that of the fault, or nothing
abbrev pub IsFaultLine : Outcome → List ℕ → Type 0
IsFaultLine (ReadFault slot) line = line ≡ read_fault_text slot
IsFaultLine (WriteFault slot) line = line ≡ write_fault_text slot
IsFaultLine OutOfMemory line = line ≡ []
IsFaultLine outcome line = Unit {0}

-- The state after the words were done.
pub record Ran (asked : Result WhyAsked UsageFault) (old new : Slot → SlotView) (outcome : Outcome) (line : List ℕ) : Type 0 where
  pub due : IsFinal outcome → WhereRead asked old (λ p c. EndsDue (due_of_why asked p c) old new outcome line)
  pub prefix : WhereRead asked old (λ p c. LeavesPrefix (due_of_why asked p c).report (old slots.Report) (new slots.Report))
  pub fault_line : IsFaultLine outcome line
  pub names_are : HasNames asked new
  pub attached : AttachesDue asked outcome (new slots.Report)
  pub note_stays : new slots.Note ≡ old slots.Note
  pub usage : (fault : UsageFault) → outcome ≡ Usage fault → asked ≡ Err fault
  pub usage_always : (fault : UsageFault) → asked ≡ Err fault → (outcome ≡ Usage fault) ⊎ (outcome ≡ OutOfMemory)
  pub refused : (fault : PolicyFault) → outcome ≡ Policy fault → PolicyCause asked old new fault
  pub policy : ReachesCapture asked outcome old
  pub drained : outcome ≡ Done → ReadsToEnd new
  pub read_faults : (s : Slot) → outcome ≡ ReadFault s → ReadFaultCause asked old new s
  pub write_faults : (s : Slot) → outcome ≡ WriteFault s → WriteFaultCause asked old new s
  pub no_note_fault : outcome ≡ WriteFault slots.Note → ⊥

-- A call: what ran, and then the line in Note.
pub record Called (asked : Result WhyAsked UsageFault) (old mid new : Slot → SlotView) (outcome : Outcome) (line : List ℕ) (result : Outcome) : Type 0 where
  pub ran : Ran asked old mid outcome line
  pub notes : NotesLine outcome line (mid slots.Note) (new slots.Note) result
  pub beside : (s : Slot) → s ≢ slots.Note → new s ≡ mid s
