use Rattle.acc_table.specs.Links.{owners}
use Rattle.acc_table.proofs.Walking.{Seeks}
use Rattle.acc_table.proofs.links.Links.row_of.Given as goal

-- the packet's row, if it has one, is ahead
abbrev pub invariant-loop-step : goal.invariant-loop-step
invariant-loop-step g l = Seeks (owners l.rows) l.self.nexts l.pid l.at l._step
