use Rattle.std.proofs.Common.{◌≡◌, ◌<◌, ℕ}
use Rattle.std.specs.Int.{bit_at}
use Rattle.patterns.specs.Sieving.{groups_of, Grows}
use Rattle.patterns.specs.Windows.{window_at}
use Rattle.patterns.proofs.sieve.mark_windows.Given as goal

abbrev pub invariant-offsets : goal.invariant-offsets
invariant-offsets l = record {
  grows : Grows l.fn.table l.table;
  marked : (offset : ℕ) → offset < l.offset → bit_at (groups_of l.table (window_at l.width l.bytes offset)) l.group ≡ 1;
}
