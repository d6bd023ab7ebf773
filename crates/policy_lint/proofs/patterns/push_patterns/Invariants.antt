use Rattle.policy_lint.specs.Patterns.{told_pattern}
use Rattle.policy_lint.proofs.Steps.{AreGathered}
use Rattle.policy_lint.proofs.patterns.push_patterns.Given as goal

abbrev pub invariant-settings : goal.invariant-settings
invariant-settings l = AreGathered (λ before s. told_pattern l.cuts l.kind s) l.settings l.fn.found l.place l.found
