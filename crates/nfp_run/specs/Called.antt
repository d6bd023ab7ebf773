-- Believed: what a clause says of the result that is due.
use Rattle.std.specs.Prelude.{ℕ, List}
use Rattle.nfp_outside.specs.declared.slot.Slot.{Slot}
use Rattle.nfp_outside.specs.Outside.{SlotView}
use Rattle.command_words.specs.Words.{command_of}
use Rattle.nfp_run.specs.Answers.{WhereRead}
use Rattle.nfp_run.specs.Due.{Due, due}

-- a fact about the result that is due for these words, if the desk shows what they read
abbrev pub WhereDue : List (List ℕ) → (Slot → SlotView) → (Due → Type 0) → Type 0
WhereDue words old P = WhereRead (command_of words) old (λ policy graph capture. P (due words policy graph capture))
