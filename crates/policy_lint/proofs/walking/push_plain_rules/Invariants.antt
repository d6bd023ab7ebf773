use Rattle.policy_lint.specs.Walking.{told_plain_rule}
use Rattle.policy_lint.proofs.Steps.{AreGathered}
use Rattle.policy_lint.proofs.walking.push_plain_rules.Given as goal

abbrev pub invariant-rules : goal.invariant-rules
invariant-rules l = AreGathered (λ others r. told_plain_rule l.chain l.before r) l.rules l.fn.found l.place l.found
