use Rattle.std.proofs.Common.{◌≡◌, take}
use Rattle.policy_lint.specs.Nats.{nats_of}
use Rattle.policy_lint.proofs.nats.nats_of.Given as goal

-- those of the chains so far
abbrev pub invariant-chains : goal.invariant-chains
invariant-chains l = l.nats ≡ nats_of (take l.place l.chains)
