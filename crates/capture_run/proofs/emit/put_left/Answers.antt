use Rattle.std.proofs.Common.{[], subst}
use Rattle.std.specs.Prelude.{IfErr, OnOk}
use Rattle.capture_items.specs.Slots.{Breaks, Puts}
use Rattle.capture_items.specs.Streams.{spelled_with}
use Rattle.capture_run.proofs.emit.put_left.Goals as goal

pub returns-clause-ok : goal.returns-clause-ok
returns-clause-ok g c =
    subst (λ r. OnOk c.put_packet.result (Puts (spelled_with (g.W.Sink.spelled c.args.writer.now) c.args.beside.now r) [] (g.D.Desk.slots c.args.desk.now) (g.D.Desk.slots c.put_packet.new.desk))) c.emitted_record.ensures.«record» c.put_packet.ensures.ok

pub returns-clause-err : goal.returns-clause-err
returns-clause-err g c =
    subst (λ r. IfErr c.put_packet.result (Breaks (spelled_with (g.W.Sink.spelled c.args.writer.now) c.args.beside.now r) [] (g.D.Desk.slots c.args.desk.now) (g.D.Desk.slots c.put_packet.new.desk))) c.emitted_record.ensures.«record» c.put_packet.ensures.err
