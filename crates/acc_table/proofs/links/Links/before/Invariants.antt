use Rattle.acc_table.proofs.Walking.{Nears}
use Rattle.acc_table.proofs.links.Links.before.Given as goal

-- the place is ahead
abbrev pub invariant-loop-step : goal.invariant-loop-step
invariant-loop-step l = Nears l.self l.bucket l.place l.at l._step
