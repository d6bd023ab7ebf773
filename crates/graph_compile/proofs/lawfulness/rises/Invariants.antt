use Rattle.std.proofs.Common.{◌≡◌, drop}
use Rattle.graph_compile.specs.Facts.{rises}
use Rattle.graph_compile.proofs.lawfulness.rises.Given as goal

-- the positions of the rest rise exactly when all do
abbrev pub invariant-positions : goal.invariant-positions
invariant-positions l = rises l.low (drop l.position-index l.positions) ≡ rises 0 l.positions
