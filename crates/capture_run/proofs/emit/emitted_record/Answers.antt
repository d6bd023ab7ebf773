use Rattle.std.proofs.Common.{◌∙◌, length, ap}
use Rattle.capture_run.specs.Emitted.{wire_after}
use Rattle.capture_run.proofs.emit.emitted_record.Goals as goal

pub returns-clause-record : goal.returns-clause-record
returns-clause-record c =
    let wire = c.wire_after.ensures ∙ ap (λ n. wire_after c.args.packet.now.wire n (length c.bytes-2.result.now)) (ap length c.bytes.ensures)
    ∙ ap (λ n. wire_after c.args.packet.now.wire (length c.args.packet.now.frame) n) (ap length c.bytes-2.ensures) in
    λ i. record { seconds = c.args.packet.now.seconds; fraction = c.args.packet.now.fraction; wire = wire i; frame = c.args.frame }
