use Rattle.std.proofs.Common.{◌≡◌, length}
use Rattle.graph_text.specs.Standing.{repeats}
use Rattle.graph_text.proofs.standing.repeats.Given as goal

-- the rest decides
abbrev pub invariant-rest : goal.invariant-rest
invariant-rest l = repeats l.rest ≡ repeats l.positions

abbrev pub decreases-rest : goal.decreases-rest
decreases-rest l = length l.rest
