use Rattle.policy_lint.specs.Walking.{told_place}
use Rattle.policy_lint.proofs.Steps.{AreGathered}
use Rattle.policy_lint.proofs.walking.push_walked.Given as goal

abbrev pub invariant-order : goal.invariant-order
invariant-order l = AreGathered (told_place l.chain) l.order l.fn.found l.at l.found
