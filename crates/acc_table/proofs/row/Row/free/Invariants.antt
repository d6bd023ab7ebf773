use Rattle.std.proofs.Common.{◌≡◌}
use Rattle.acc_table.specs.Arrivals.{nothing}
use Rattle.acc_table.proofs.row.Row.free.Given as goal

-- nothing for as many branches as turns so far
abbrev pub invariant-loop-i : goal.invariant-loop-i
invariant-loop-i g l = l.arrived.items ≡ nothing l._i
