-- Believed: rules of clauses: how the clauses are read, and which rule is the first that a packet meets.
use Rattle.std.specs.Prelude.{ℕ, List, Option, Some, None, Result, Ok, Err, find}
use Rattle.policy_text.specs.declared.clause.Clause.{Clause}
use Rattle.policy_text.specs.declared.clause.Match.{Match}
use Rattle.policy_text.specs.declared.seen.Seen.{Seen}
use Rattle.policy_text.specs.Clauses.{clauses_of}
use Rattle.policy_text.specs.Meeting.{is_fitting}

abbrev pub fit_by : Result (List Clause) ℕ → Option Match
fit_by (Ok clauses) = Some (record { clauses = clauses })
fit_by (Err place) = None

-- the clauses that the words spell, none if they are no clauses
abbrev pub fit_of : List (List ℕ) → Option Match
fit_of words = fit_by (clauses_of words)

-- the first rule whose clauses are all met
abbrev pub first_met : {R : Type 0} → (R → Match) → Seen → List R → Option R
first_met fit seen rules = find (λ rule. is_fitting (fit rule) seen) rules
