use Rattle.std.proofs.Common.{[], subst, sym}
use Rattle.capture_items.specs.Slots.{Breaks}
use Rattle.capture_items.specs.declared.given.Given.TheVariants.{Block}
use Rattle.capture_items.specs.Putting.{puts_out, out_refused}
use Rattle.capture_items.proofs.write.put_block.Goals as goal

pub returns-in-Ok-clause-ok : goal.returns-in-Ok-clause-ok
returns-in-Ok-clause-ok g c = puts_out (g.W.Sink.spelled c.args.writer.now (Block c.args.block.now)) (g.D.Desk.slots c.args.desk.now) (g.D.Desk.slots c.put_block.new.desk) c.in-Ok.ensures.ok c.put_block.ensures.cause.later c.put_block.ensures.others

pub returns-in-Err-clause-err : goal.returns-in-Err-clause-err
returns-in-Err-clause-err g c =
    subst (λ e. Breaks (g.W.Sink.spelled c.args.writer.now (Block c.args.block.now)) [] (g.D.Desk.slots c.args.desk.now) (g.D.Desk.slots c.put_block.new.desk) e) (sym c.fault_of.ensures)
    (out_refused (g.W.Sink.spelled c.args.writer.now (Block c.args.block.now)) (g.D.Desk.slots c.args.desk.now) (g.D.Desk.slots c.put_block.new.desk) c.in-Err.fault c.put_block.result c.in-Err.is c.in-Err.ensures.err c.put_block.ensures.cause c.put_block.ensures.others)
