use Rattle.std.proofs.Common.{◌≡◌, ◌≤◌, []}
use Rattle.std.specs.Vec.{vec_capacity}
use Rattle.bench_program.specs.Rolling.{Rolls}
use Rattle.bench_program.proofs.arrivals.filled.Given as goal

-- the packets so far are open
abbrev pub invariant-loop-pid : goal.invariant-loop-pid
invariant-loop-pid l =
    record {
      entries : l.table.entries ≡ l.fn.table.entries;
      rolls : Rolls l.table 0 l.pid;
      empty : l.values.items ≡ [];
      room : 2 ≤ vec_capacity l.values;
    }
