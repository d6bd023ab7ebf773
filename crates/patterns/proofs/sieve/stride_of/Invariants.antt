use Rattle.std.proofs.Common.{◌<◌, ◌≤◌}
use Rattle.patterns.proofs.sieve.stride_of.Given as goal

abbrev pub invariant-patterns : goal.invariant-patterns
invariant-patterns l = (0 < l.stride) × (l.stride ≤ 8)
