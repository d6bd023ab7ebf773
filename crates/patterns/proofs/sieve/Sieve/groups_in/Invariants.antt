use Rattle.std.proofs.Common.{◌≡◌, ◌<◌, ◌*◌, ℕ}
use Rattle.std.specs.Int.{bit_at}
use Rattle.patterns.specs.Sieving.{groups_of}
use Rattle.patterns.specs.Windows.{window_at}
use Rattle.patterns.proofs.sieve.Sieve.groups_in.Given as goal

abbrev pub invariant-turns : goal.invariant-turns
invariant-turns l = record {
  always : (group : ℕ) → bit_at l.self.short group ≡ 1 → bit_at l.groups group ≡ 1;
  seen : (turn group : ℕ) → turn < l.turn → bit_at (groups_of l.table (window_at l.width l.payload (turn * l.stride))) group ≡ 1 → bit_at l.groups group ≡ 1;
}
