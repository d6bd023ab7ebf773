-- For proofs: the number of mergers of a value of `Mergers`.
use Rattle.std.specs.Prelude.{ℕ, ◌+◌, ◌%◌}
use Rattle.burst_walk.specs.declared.merging.Mergers.{Mergers}

abbrev pub number_of : Mergers → ℕ
number_of m = m.more % 16 + 1
