-- A packet's block is put by putting its frame, and around it what is before and after the frame.
use Rattle.std.proofs.Common.{◌≡◌, ◌∙◌, ◌++◌, ◌-◌, ◌+◌, ℕ, List, ap, subst, length}
use Rattle.std.specs.Prelude.{replicate}
use Rattle.std.proofs.lemmas.Result.{on_ok_weaker, on_err_weaker}
use Rattle.nfp_outside.specs.declared.slot.Slot.TheVariants.{Out}
use Rattle.nfp_outside.specs.Outside.{Appends, AppendsPrefix}
use Rattle.capture_bytes.specs.Numbers.{bytes_of}
use Rattle.pcapng_io.specs.Options.{padded}
use Rattle.pcapng_io.specs.declared.item.NgPacket.{NgPacket}
use Rattle.pcapng_io.specs.Written.{head_spelled, packet_bytes, packet_head, packet_with}
use Rattle.pcapng_io.proofs.Pieces.{packet_whole}
use Rattle.pcapng_io.proofs.writer.put_packet.Goals as goal

-- the pieces, as they were made of a frame and of its padded length
whole : (p : NgPacket) (head frame : List ℕ) (room : ℕ) → frame ≡ p.packet.frame → room ≡ padded (length frame) → head ≡ head_spelled p.order (32 + room + length p.options) p.interface p.ticks (length frame) p.packet.wire →
    (head ++ frame) ++ (replicate (room - length frame) 0 ++ p.options ++ bytes_of p.order 4 (32 + room + length p.options)) ≡ packet_bytes p
unfolding packet_head
whole p head frame room same fits is =
    let there : room ≡ padded (length p.packet.frame) = fits ∙ ap (λ f. padded (length f)) same in
    packet_whole p head frame (room - length frame) (32 + room + length p.options)
    (is ∙ (λ i. head_spelled p.order (32 + there i + length p.options) p.interface p.ticks (length (same i)) p.packet.wire))
    same (λ i. there i - length (same i)) (ap (λ d. 32 + d + length p.options) there)

pub returns-clause-ok : goal.returns-clause-ok
returns-clause-ok g c =
    let p = packet_with c.args.order c.args.interface c.args.ticks c.args.options.now c.args.packet.now in
    let pieces = whole p c.head_of-head.result c.bytes-frame.result.now c.padded-data.result c.bytes-frame.ensures c.padded-data.ensures c.head_of-head.ensures in
    on_ok_weaker c.put_around.result (subst (λ l. Appends l (g.D.Desk.slots c.args.desk.now Out) (g.D.Desk.slots c.put_around.new.desk Out)) pieces) c.put_around.ensures.ok

pub returns-clause-err : goal.returns-clause-err
returns-clause-err g c =
    let p = packet_with c.args.order c.args.interface c.args.ticks c.args.options.now c.args.packet.now in
    let pieces = whole p c.head_of-head.result c.bytes-frame.result.now c.padded-data.result c.bytes-frame.ensures c.padded-data.ensures c.head_of-head.ensures in
    on_err_weaker c.put_around.result (subst (λ l. AppendsPrefix l (g.D.Desk.slots c.args.desk.now Out) (g.D.Desk.slots c.put_around.new.desk Out)) pieces) c.put_around.ensures.err
