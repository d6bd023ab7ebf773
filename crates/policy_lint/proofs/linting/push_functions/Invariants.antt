use Rattle.policy_lint.specs.Findings.{told_function}
use Rattle.policy_lint.proofs.Steps.{AreGathered}
use Rattle.policy_lint.proofs.linting.push_functions.Given as goal

abbrev pub invariant-functions : goal.invariant-functions
invariant-functions l = AreGathered (λ before decl. told_function l.cuts decl) l.functions l.fn.found l.place l.found
