use Rattle.policy_lint.specs.Apart.{apart_in}
use Rattle.policy_lint.proofs.Steps.{AreGathered}
use Rattle.policy_lint.proofs.apart.push_apart.Given as goal

abbrev pub invariant-chains : goal.invariant-chains
invariant-chains l = AreGathered apart_in l.chains l.fn.found l.place l.found
