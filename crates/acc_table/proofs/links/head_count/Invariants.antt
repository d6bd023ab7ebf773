use Rattle.std.proofs.Common.{◌≡◌, ◌<◌, ◌-◌}
use Rattle.acc_table.specs.Arrivals.{doubled_to, heads_for}
use Rattle.acc_table.proofs.links.head_count.Given as goal

-- this number of doublings remains
abbrev pub invariant-loop-doubled : goal.invariant-loop-doubled
invariant-loop-doubled l = (doubled_to (16 - l._doubled) l.heads l.entries ≡ heads_for l.entries) × (0 < l.heads)
