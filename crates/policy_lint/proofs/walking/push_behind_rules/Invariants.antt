use Rattle.policy_lint.specs.Walking.{told_hidden}
use Rattle.policy_lint.proofs.Steps.{AreGathered}
use Rattle.policy_lint.proofs.walking.push_behind_rules.Given as goal

abbrev pub invariant-rules : goal.invariant-rules
invariant-rules l = AreGathered (λ others r. told_hidden l.chain l.newest r) l.rules l.fn.found l.place l.found
