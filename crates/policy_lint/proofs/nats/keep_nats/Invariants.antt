use Rattle.policy_lint.specs.Nats.{nat_of}
use Rattle.policy_lint.proofs.Steps.{AreKeptBehind}
use Rattle.policy_lint.proofs.nats.keep_nats.Given as goal

abbrev pub invariant-functions : goal.invariant-functions
invariant-functions l = AreKeptBehind nat_of l.fn.nats l.functions l.place l.nats
