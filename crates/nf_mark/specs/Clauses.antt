-- Believed: rules that may have only some clauses.
use Rattle.std.specs.Prelude.{ℕ, List, Bool, if◌then◌else◌, Option, Some, None}
use Rattle.std.specs.Option.{option_and_then}
use Rattle.std.specs.List.{list_all}
use Rattle.policy_text.specs.declared.clause.Clause.{Clause}
use Rattle.policy_text.specs.declared.clause.Match.{Match}
use Rattle.function_lines.specs.Rules.{fit_of}

-- the clauses that the words spell, none if they are no clauses or one of them isn't allowed
abbrev pub fit_of_such : (Clause → Bool) → List (List ℕ) → Option Match
fit_of_such may_stand words = option_and_then (λ fit. if list_all may_stand fit.clauses then Some fit else None) (fit_of words)
