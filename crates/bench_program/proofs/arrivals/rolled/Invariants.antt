use Rattle.std.proofs.Common.{◌≡◌, ◌+◌, ◌≤◌, []}
use Rattle.std.specs.Vec.{vec_capacity}
use Rattle.bench_program.specs.Rolling.{Rolls}
use Rattle.bench_program.proofs.arrivals.rolled.Given as goal

-- this number have left, and this number have arrived
abbrev pub invariant-loop-round : goal.invariant-loop-round
invariant-loop-round l =
    record {
      entries : l.table.entries ≡ l.fn.table.entries;
      rolls : Rolls l.table l.round (l.entries + l.round);
      empty : l.values.items ≡ [];
      room : 2 ≤ vec_capacity l.values;
    }
