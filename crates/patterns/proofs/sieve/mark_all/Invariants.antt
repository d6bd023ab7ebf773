use Rattle.std.proofs.Common.{◌<◌, ◌%◌, ℕ, [], get_or}
use Rattle.patterns.specs.Sieving.{IsMarked}
use Rattle.patterns.proofs.sieve.mark_all.Given as goal

abbrev pub invariant-patterns : goal.invariant-patterns
invariant-patterns l = (place : ℕ) → place < l.place → IsMarked l.width l.stride l.short l.table (get_or l.patterns place []) (place % 64)
