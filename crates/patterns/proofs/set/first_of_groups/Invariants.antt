use Rattle.std.proofs.Common.{◌≡◌, ◌<◌, ℕ, [], get_or, false}
use Rattle.patterns.specs.Occurrences.{occurs}
use Rattle.patterns.proofs.set.first_of_groups.Given as goal

abbrev pub invariant-patterns : goal.invariant-patterns
invariant-patterns l = (k : ℕ) → k < l.place → occurs (get_or l.patterns k []) l.payload ≡ false
