use Rattle.std.proofs.Common.{[], subst, sym}
use Rattle.capture_items.specs.Slots.{Breaks}
use Rattle.capture_items.specs.Streams.{spelled_with}
use Rattle.capture_items.specs.Putting.{puts_out, out_refused}
use Rattle.capture_items.proofs.write.put_packet.Goals as goal

pub returns-in-Ok-clause-ok : goal.returns-in-Ok-clause-ok
returns-in-Ok-clause-ok g c = puts_out (spelled_with (g.W.Sink.spelled c.args.writer.now) c.args.beside.now c.args.packet.now) (g.D.Desk.slots c.args.desk.now) (g.D.Desk.slots c.put.new.desk) c.in-Ok.ensures.ok c.put.ensures.cause.later c.put.ensures.others

pub returns-in-Err-clause-err : goal.returns-in-Err-clause-err
returns-in-Err-clause-err g c =
    subst (λ e. Breaks (spelled_with (g.W.Sink.spelled c.args.writer.now) c.args.beside.now c.args.packet.now) [] (g.D.Desk.slots c.args.desk.now) (g.D.Desk.slots c.put.new.desk) e) (sym c.fault_of.ensures)
    (out_refused (spelled_with (g.W.Sink.spelled c.args.writer.now) c.args.beside.now c.args.packet.now) (g.D.Desk.slots c.args.desk.now) (g.D.Desk.slots c.put.new.desk) c.in-Err.fault c.put.result c.in-Err.is c.in-Err.ensures.err c.put.ensures.cause c.put.ensures.others)
