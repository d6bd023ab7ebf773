use Rattle.std.proofs.Common.{◌-◌}
use Rattle.capture_run.proofs.Turns.{IsAt}
use Rattle.capture_run.proofs.records.run_records.Given as goal

abbrev pub invariant-records : goal.invariant-records
invariant-records g l = IsAt g.W.Sink.spelled g.S.Source.left g.S.Source.packets g.S.Source.is_open l.fn.passage l.passage l.cutter l.beside.items l.fn.source l.source (g.D.Desk.slots l.fn.desk) (g.D.Desk.slots l.desk)

abbrev pub decreases-records : goal.decreases-records
decreases-records g l = 1099511627776 - g.S.Source.taken l.source
