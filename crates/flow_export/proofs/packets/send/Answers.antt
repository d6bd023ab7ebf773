-- One packet after another is put, until all are.
use Rattle.std.proofs.Common.{◌≡◌, ◌*◌, length, take, refl, ap, subst, arith}
use Rattle.std.specs.Prelude.{Err}
use Rattle.std.proofs.lemmas.Grind.{div_ceil_times}
use Rattle.std.proofs.lemmas.List.{length-take}
use Rattle.std.proofs.lemmas.List.Sums.{length-filter, count_by-le-length}
use Rattle.flow_export.specs.Exports.{is_exported, exported, packet_count}
use Rattle.nfp_outside.specs.declared.slot.Slot.TheVariants.{Out}
use Rattle.nfp_outside.specs.Outside.{Appends}
use Rattle.flow_export.proofs.Sending.{begins, goes_on, stops, all_sent, fits_front, cause_of_last}
use Rattle.flow_export.proofs.packets.send.Goals as goal

pub packets-init : goal.packets-init
packets-init g c = begins c.args.span.now c.args.lines.now (g.D.Desk.slots c.args.desk.now) c.requires.fits

pub put_packet-end-requires-clause-fits : goal.put_packet-end-requires-clause-fits
put_packet-end-requires-clause-fits g c = fits_front c.packets.rest.now c.split_packet.result.0.now c.split_packet.result.1.now c.packets.invariant.fits c.split_packet.ensures.parts

pub overflow_mul-number : goal.overflow_mul-number
overflow_mul-number g c =
    let bound = div_ceil_times (length (exported c.args.lines.now)) 30 (omega arith) in
    let kept = length-filter is_exported c.args.lines.now in
    let few = count_by-le-length is_exported c.args.lines.now in
    record { fits = omega (arith, bound.1, kept, few, c.requires.few, c.requires.count, c.packets-test.true) }

pub put_packet-end-requires-clause-few : goal.put_packet-end-requires-clause-few
put_packet-end-requires-clause-few g c =
    let size = ap length c.split_packet.ensures.front in
    let most = length-take 30 (exported c.packets.rest.now) in
    omega (arith, size, most)

pub returns-in-Err-clause-err : goal.returns-in-Err-clause-err
returns-in-Err-clause-err g c =
    let slots = g.D.Desk.slots in
    stops c.args.span.now c.args.lines.now (slots c.args.desk.now) (slots c.packets.desk) (slots c.write_whole.new.desk) c.packets.number (c.packets.number * 30) c.packets.rest.now c.split_packet.result.0.now c.split_packet.result.1.now
    (take c.put_packet-end.result c.put_packet-end.new.buffer) c.packets.invariant refl (omega (arith, c.packets-test.true, c.requires.count)) c.split_packet.ensures.front c.put_packet-end.ensures.written c.in-Err.ensures.err

pub returns-in-Err-clause-cause : goal.returns-in-Err-clause-cause
returns-in-Err-clause-cause g c =
    let slots = g.D.Desk.slots in
    cause_of_last (slots c.args.desk.now Out) (slots c.packets.desk Out) (slots c.write_whole.new.desk Out) (Err c.in-Err.fault) c.packets.invariant.later c.in-Err.ensures.cause

pub packets-preserved : goal.packets-preserved
packets-preserved g c =
    let slots = g.D.Desk.slots in
    goes_on c.args.span.now c.args.lines.now (slots c.args.desk.now) (slots c.packets.desk) (slots c.write_whole.new.desk) c.packets.number (c.packets.number * 30) c.packets.rest.now c.split_packet.result.0.now c.split_packet.result.1.now
    (take c.put_packet-end.result c.put_packet-end.new.buffer) c.packets.invariant refl c.split_packet.ensures.parts c.split_packet.ensures.front c.split_packet.ensures.back c.put_packet-end.ensures.written
    c.in_default.ensures.ok c.in_default.ensures.cause.later c.in_default.ensures.others

pub returns-clause-ok : goal.returns-clause-ok
returns-clause-ok g c =
    let slots = g.D.Desk.slots in
    let number : c.packets.number ≡ packet_count (length (exported c.args.lines.now)) = omega (arith, c.packets-test.false, c.packets.auto.number-end, c.requires.count) in
    subst (λ b. Appends b (slots c.args.desk.now Out) (slots c.packets.desk Out)) (all_sent c.args.span.now c.args.lines.now c.packets.number number) c.packets.invariant.out
