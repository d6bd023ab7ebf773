use Rattle.policy_lint.specs.Spelling.{told_rule}
use Rattle.policy_lint.proofs.Steps.{AreGathered}
use Rattle.policy_lint.proofs.spelling.push_told_rules.Given as goal

abbrev pub invariant-rules : goal.invariant-rules
invariant-rules l = AreGathered (λ before r. told_rule l.kind r) l.rules l.fn.found l.place l.found
