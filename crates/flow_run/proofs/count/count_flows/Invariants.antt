use Rattle.std.proofs.Common.{◌-◌}
use Rattle.flow_run.proofs.Turns.{IsAt}
use Rattle.flow_run.proofs.count.count_flows.Given as goal

-- how far the capture is read and counted
abbrev pub invariant-records : goal.invariant-records
invariant-records g l = IsAt l.head.unit l.counting l.fn.reader l.reader (g.D.Desk.slots l.fn.desk) (g.D.Desk.slots l.desk)

abbrev pub decreases-records : goal.decreases-records
decreases-records g l = 4294967295 - l.reader.given
