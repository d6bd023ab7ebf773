use Rattle.std.proofs.Common.{arith}
use Rattle.packet_version.specs.Places.{unwritten_place}
use Rattle.packet_version.proofs.Mapping.{changed_next, changed_all}
use Rattle.packet_version.proofs.places.forget_all.Goals as goal

pub loop-place-preserved : goal.loop-place-preserved
loop-place-preserved c =
    changed_next unwritten_place c.args.places.now c.loop-place.places c.loop-place.place-index c.forget_writer.new.self c.place-item.result (omega (arith, c.loop-place.auto.places)) c.loop-place.invariant c.forget_writer.ensures

pub returns : goal.returns
returns c = changed_all unwritten_place c.args.places.now c.loop-place.places c.loop-place.place-index (omega (arith, c.loop-place.auto.places)) c.loop-place.invariant
