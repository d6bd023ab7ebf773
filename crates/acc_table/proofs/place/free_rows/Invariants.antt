use Rattle.std.proofs.Common.{◌≡◌, None, replicate}
use Rattle.acc_table.specs.Arrivals.{nothing}
use Rattle.acc_table.proofs.place.free_rows.Given as goal

-- as many free rows as turns so far
abbrev pub invariant-loop-i : goal.invariant-loop-i
invariant-loop-i g l = l.rows.items ≡ replicate l._i (record { pid = None; arrived = nothing l.branches })
