use Rattle.policy_lint.specs.Nats.{told_nat}
use Rattle.policy_lint.proofs.Steps.{AreGathered}
use Rattle.policy_lint.proofs.nats.push_nats.Given as goal

abbrev pub invariant-nats : goal.invariant-nats
invariant-nats l = AreGathered told_nat l.nats l.fn.found l.place l.found
