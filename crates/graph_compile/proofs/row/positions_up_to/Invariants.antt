use Rattle.std.proofs.Common.{◌≡◌}
use Rattle.std.specs.List.{range_with_len}
use Rattle.graph_compile.proofs.row.positions_up_to.Given as goal

abbrev pub invariant-row : goal.invariant-row
invariant-row l = l.positions ≡ range_with_len 1 l.index
