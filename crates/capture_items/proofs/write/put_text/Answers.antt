use Rattle.std.proofs.Common.{[], inr, subst, sym}
use Rattle.capture_items.specs.Slots.{Breaks}
use Rattle.capture_items.specs.Putting.{puts_report, report_refused}
use Rattle.capture_items.proofs.write.put_text.Goals as goal

pub write_whole-requires-clause-attached : goal.write_whole-requires-clause-attached
write_whole-requires-clause-attached g c = inr c.requires

pub returns-in-Ok-clause-ok : goal.returns-in-Ok-clause-ok
returns-in-Ok-clause-ok g c = puts_report c.args.text.now (g.D.Desk.slots c.args.desk.now) (g.D.Desk.slots c.write_whole.new.desk) c.in-Ok.ensures.ok c.write_whole.ensures.cause.later c.write_whole.ensures.others

pub returns-in-Err-clause-err : goal.returns-in-Err-clause-err
returns-in-Err-clause-err g c =
    subst (λ e. Breaks [] c.args.text.now (g.D.Desk.slots c.args.desk.now) (g.D.Desk.slots c.write_whole.new.desk) e) (sym c.fault_of.ensures)
    (report_refused c.args.text.now (g.D.Desk.slots c.args.desk.now) (g.D.Desk.slots c.write_whole.new.desk) c.in-Err.fault c.write_whole.result c.in-Err.is c.in-Err.ensures.err c.write_whole.ensures.cause c.write_whole.ensures.others)
