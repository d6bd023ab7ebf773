-- Believed: the exit status of each outcome.
use Rattle.std.specs.Prelude.{ℕ}
use Rattle.call_ending.specs.declared.outcome.Outcome.{Outcome}
use Rattle.call_ending.specs.declared.outcome.Outcome.TheVariants.{Done, Usage, Policy, Graph, Capture, CaptureNg, ReadFault, WriteFault, OutOfMemory}

abbrev pub status_of : Outcome → ℕ
status_of Done = 0
status_of (Usage fault) = 1
status_of (Policy fault) = 2
status_of (Graph fault) = 8
status_of (Capture fault) = 3
status_of (CaptureNg fault) = 3
status_of (ReadFault slot) = 4
status_of (WriteFault slot) = 5
status_of OutOfMemory = 6
