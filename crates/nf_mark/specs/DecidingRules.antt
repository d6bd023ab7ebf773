-- Believed: the place of the rule that decides what a function does to a packet.
use Rattle.std.specs.Prelude.{ℕ, List, Option, position}
use Rattle.policy_text.specs.declared.clause.Match.{Match}
use Rattle.policy_text.specs.declared.seen.Seen.{Seen}
use Rattle.policy_text.specs.Meeting.{is_fitting}

-- the place of the first rule whose clauses are all met, counted from 0
unfoldable pub place_met : {R : Type 0} → (R → Match) → Seen → List R → Option ℕ
place_met fit seen rules = position (λ rule. is_fitting (fit rule) seen) rules
