use Rattle.policy_lint.specs.Findings.{told_at}
use Rattle.policy_lint.proofs.Steps.{AreGathered}
use Rattle.policy_lint.proofs.linting.push_chains.Given as goal

abbrev pub invariant-chains : goal.invariant-chains
invariant-chains l = AreGathered (told_at l.cuts l.orders) l.chains l.fn.found l.place l.found
