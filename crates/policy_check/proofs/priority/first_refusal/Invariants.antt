use Rattle.std.proofs.Common.{◌≡◌, drop}
use Rattle.policy_check.specs.Refusals.{first_refusal}
use Rattle.policy_check.proofs.priority.first_refusal.Given as goal

abbrev pub invariant-text : goal.invariant-text
invariant-text l =
    first_refusal l.functions (drop l.statement-index l.statements) ≡ first_refusal l.functions l.statements
