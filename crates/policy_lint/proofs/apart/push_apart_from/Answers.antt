use Rattle.std.proofs.Common.{rules, get_or, refl}
use Rattle.policy_lint.specs.declared.nats.NatLines.{NatLines}
use Rattle.policy_lint.proofs.Steps.{goes_on}
use Rattle.policy_lint.proofs.apart.push_apart_from.Goals as goal

-- what is past the last
abbrev unset : NatLines
unset = record { inside_line = 0; prefix = 0; bits = 0; public_line = 0; public = 0; ports_line = 0; low = 0; high = 0 }

pub nats-preserved : goal.nats-preserved
nats-preserved c = goes_on _ c.args.nats.now c.args.found.now c.nats.place c.nats.found c.push_nat.new.found unset (get_or c.args.nats.now c.nats.place unset) c.nats.invariant (search rules) refl (search rules)
