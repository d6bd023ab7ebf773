-- For proofs: what reading one more clause returns, or one more flag of the last clause.
use Rattle.std.specs.Prelude.{◌≡◌, ℕ, ◌+◌, List, drop, Option, Some, None, Result, Ok, Err}
use Rattle.policy_text.specs.declared.clause.Clause.{Clause}
use Rattle.policy_text.specs.declared.fault.MatchFault.{MatchFault}
use Rattle.policy_text.specs.declared.fault.MatchFault.TheVariants.{BadWord, OutOfMemory}
use Rattle.policy_text.specs.Clauses.{clauses_from}

-- A call read on by this number of words, or returned the place of the fault, unless it ran out of memory.
abbrev pub ReadsOn : List Clause → List Clause → ℕ → List (List ℕ) → Result ℕ MatchFault → Type 0
ReadsOn before after place words (Ok n) = clauses_from before place words ≡ clauses_from after (place + n) (drop n words)
ReadsOn before after place words (Err (BadWord k)) = clauses_from before place words ≡ Err k
ReadsOn before after place words (Err OutOfMemory) = Unit {0}

-- A call gave the clauses with one more flag, or returned the place of a word that is none.
abbrev pub GivesMore : List Clause → ℕ → Option (List Clause) → Result ℕ MatchFault → Type 0
GivesMore after place more (Ok n) = more ≡ Some after
GivesMore after place more (Err (BadWord k)) = (more ≡ None) × (k ≡ place)
GivesMore after place more (Err OutOfMemory) = Unit {0}
