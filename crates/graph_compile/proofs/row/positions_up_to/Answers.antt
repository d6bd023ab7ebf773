use Rattle.std.proofs.Common.{rules}
use Rattle.graph_compile.proofs.InARow.{range-more}
use Rattle.graph_compile.proofs.row.positions_up_to.Goals as goal

pub row-preserved : goal.row-preserved
row-preserved c = let more = range-more 1 c.row.index in search rules
