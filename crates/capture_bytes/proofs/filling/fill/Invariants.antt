use Rattle.std.proofs.Common.{◌-◌, length}
use Rattle.capture_bytes.proofs.Pieces.{HasFilled}
use Rattle.capture_bytes.proofs.filling.fill.Given as goal

abbrev pub invariant-pieces : goal.invariant-pieces
invariant-pieces g l = HasFilled g.D.Desk.slots l.into l.done l.fn.desk l.desk

abbrev pub decreases-pieces : goal.decreases-pieces
decreases-pieces g l = length l.into - l.done
