use Rattle.std.proofs.Common.{◌≡◌, [], ap, length, subst, sym}
use Rattle.std.specs.Prelude.{IfErr, OnOk}
use Rattle.capture_run.specs.Emitted.{wire_after}
use Rattle.capture_items.specs.Slots.{Breaks, Puts}
use Rattle.capture_items.specs.Streams.{spelled_with}
use Rattle.capture_run.proofs.Emitting.{unchanged}
use Rattle.capture_run.proofs.emit.put_unchanged.Goals as goal

pub returns-clause-ok : goal.returns-clause-ok
returns-clause-ok g c =
    let as_long : wire_after c.args.packet.now.wire (length c.args.packet.now.frame) (length c.args.packet.now.frame) ≡ c.args.packet.now.wire =
    subst (λ n. wire_after c.args.packet.now.wire n n ≡ c.args.packet.now.wire) (ap length c.bytes.ensures) c.unchanged_is_as_long.ensures in
    subst (λ l. OnOk c.put_packet.result (Puts l [] (g.D.Desk.slots c.args.desk.now) (g.D.Desk.slots c.put_packet.new.desk))) (sym (unchanged (spelled_with (g.W.Sink.spelled c.args.writer.now) c.args.beside.now) c.args.packet.now as_long)) c.put_packet.ensures.ok

pub returns-clause-err : goal.returns-clause-err
returns-clause-err g c =
    let as_long : wire_after c.args.packet.now.wire (length c.args.packet.now.frame) (length c.args.packet.now.frame) ≡ c.args.packet.now.wire =
    subst (λ n. wire_after c.args.packet.now.wire n n ≡ c.args.packet.now.wire) (ap length c.bytes.ensures) c.unchanged_is_as_long.ensures in
    subst (λ l. IfErr c.put_packet.result (Breaks l [] (g.D.Desk.slots c.args.desk.now) (g.D.Desk.slots c.put_packet.new.desk))) (sym (unchanged (spelled_with (g.W.Sink.spelled c.args.writer.now) c.args.beside.now) c.args.packet.now as_long)) c.put_packet.ensures.err
