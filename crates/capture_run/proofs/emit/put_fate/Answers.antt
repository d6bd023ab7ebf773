use Rattle.std.proofs.Common.{◌∙◌, [], ap, subst, sym}
use Rattle.std.specs.Prelude.{Some}
use Rattle.capture_report.specs.BurstWalkProofs.{ended}
use Rattle.capture_run.specs.Emitted.{emitted}
use Rattle.capture_items.specs.Slots.{Puts}
use Rattle.capture_items.specs.Streams.{spelled_with}
use Rattle.capture_items.specs.Putting.{puts_none}
use Rattle.capture_run.proofs.emit.put_fate.Goals as goal

pub returns-in-Some-Gone-clause-ok : goal.returns-in-Some-Gone-clause-ok
returns-in-Some-Gone-clause-ok g c =
    subst (λ f. Puts (emitted (spelled_with (g.W.Sink.spelled c.args.writer.now) c.args.beside.now) c.args.packet.now (ended c.args.packet.now f)) [] (g.D.Desk.slots c.args.desk.now) (g.D.Desk.slots c.args.desk.now))
    (sym (c.in-Some-Gone.is ∙ ap Some c.in-Some-Gone.field-0-is)) (puts_none (g.D.Desk.slots c.args.desk.now))
