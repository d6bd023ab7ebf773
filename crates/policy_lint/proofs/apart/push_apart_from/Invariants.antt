use Rattle.policy_lint.specs.Apart.{told_apart}
use Rattle.policy_lint.proofs.Steps.{AreGathered}
use Rattle.policy_lint.proofs.apart.push_apart_from.Given as goal

abbrev pub invariant-nats : goal.invariant-nats
invariant-nats l = AreGathered (λ others n. told_apart l.before n) l.nats l.fn.found l.place l.found
