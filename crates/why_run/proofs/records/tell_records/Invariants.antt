use Rattle.std.proofs.Common.{◌-◌}
use Rattle.why_run.proofs.Turns.{IsAt}
use Rattle.why_run.proofs.records.tell_records.Given as goal

abbrev pub invariant-records : goal.invariant-records
invariant-records g l = IsAt g.S.Source.left g.S.Source.packets g.S.Source.is_open l.fn.telling l.telling l.unit l.fn.text.items l.text.items l.fn.source l.source (g.D.Desk.slots l.fn.desk) (g.D.Desk.slots l.desk)

abbrev pub decreases-records : goal.decreases-records
decreases-records g l = 1099511627776 - g.S.Source.taken l.source
