-- For proofs: the outcome and the line of work that ended so, and how the line is put into Note.
use Rattle.std.specs.Prelude.{◌≡◌, ◌≤◌, ◌⊎◌, ℕ, List, []}
use Rattle.nfp_outside.specs.declared.slot.Slot.TheVariants as slots
use Rattle.nfp_outside.specs.Outside.{SlotView, IsRisen, Appends, AppendsPrefix}
use Rattle.capture_items.specs.FaultLines.{capture_text, ng_text}
use Rattle.call_ending.specs.declared.outcome.Outcome.{Outcome}
use Rattle.call_ending.specs.declared.outcome.Outcome.TheVariants.{Done, Usage, Policy, Graph, Capture, CaptureNg, ReadFault, WriteFault, OutOfMemory}
use Rattle.call_ending.specs.declared.ending.Ending.{Ending}
use Rattle.call_ending.specs.declared.ending.Ending.TheVariants.{Completed, Shown, Refused, GraphRefused, Stopped}
use Rattle.call_ending.specs.Notes.{usage_text, done_text, read_fault_text, write_fault_text}

-- the outcome of work that ended so
abbrev pub outcome_seen : Ending → Outcome
outcome_seen (Completed totals) = Done
outcome_seen (Shown text) = Done
outcome_seen (Refused refusal) = Policy refusal.fault
outcome_seen (GraphRefused refusal) = Graph refusal.fault
outcome_seen (Stopped outcome) = outcome

-- the line of an outcome that has its full content
abbrev pub stop_text : Outcome → List ℕ
stop_text Done = []
stop_text (Usage fault) = usage_text fault
stop_text (Policy fault) = []
stop_text (Graph fault) = []
stop_text (Capture fault) = capture_text fault
stop_text (CaptureNg fault) = ng_text fault
stop_text (ReadFault slot) = read_fault_text slot
stop_text (WriteFault slot) = write_fault_text slot
stop_text OutOfMemory = []

-- what is put into Note for work that ended so
abbrev pub text_of : Ending → List ℕ
text_of (Completed totals) = done_text totals.records totals.dropped
text_of (Shown text) = text
text_of (Refused refusal) = refusal.line
text_of (GraphRefused refusal) = refusal.line
text_of (Stopped outcome) = stop_text outcome

-- the counts are at most the numbers there are
abbrev pub CountsWithin : Ending → Type 0
CountsWithin (Completed totals) = totals.dropped ≤ totals.records
CountsWithin ending = Unit {0}

-- an outcome whose line couldn't be put into Note: that fault replaces Done, and any other outcome stays
abbrev pub untold : Outcome → Outcome
untold Done = WriteFault slots.Note
untold outcome = outcome

-- The line of an outcome was put whole, or it ran out of memory, or Note failed; a prefix was put in each case.
abbrev pub NotesLine : Outcome → List ℕ → SlotView → SlotView → Outcome → Type 0
NotesLine seen line old new outcome =
    ((outcome ≡ seen) × Appends line old new)
    ⊎ ((outcome ≡ OutOfMemory) × AppendsPrefix line old new)
    ⊎ ((outcome ≡ untold seen) × IsRisen old.faults new.faults × AppendsPrefix line old new)

-- the same for work that ended so
abbrev pub Notes : Ending → SlotView → SlotView → Outcome → Type 0
Notes ending old new outcome = NotesLine (outcome_seen ending) (text_of ending) old new outcome
