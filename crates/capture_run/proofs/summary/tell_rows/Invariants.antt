use Rattle.capture_report.specs.ChainServiceProofs.{named_rows}
use Rattle.capture_run.proofs.Gathering.{IsTelling}
use Rattle.capture_run.proofs.summary.tell_rows.Given as goal

abbrev pub invariant-rows : goal.invariant-rows
invariant-rows g l = IsTelling (λ row. row) (named_rows l.function) l.place l.fn.held.items l.held.items (g.D.Desk.slots l.fn.desk) (g.D.Desk.slots l.desk)
