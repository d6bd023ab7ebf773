use Rattle.policy_lint.specs.Rules.{rule_of}
use Rattle.policy_lint.proofs.Steps.{AreKeptBehind}
use Rattle.policy_lint.proofs.rule_line.keep_rules.Given as goal

abbrev pub invariant-settings : goal.invariant-settings
invariant-settings l = AreKeptBehind (rule_of l.kind l.owner) l.fn.rules l.settings l.place l.rules
