use Rattle.std.proofs.Common.{arith}
use Rattle.packet_fields.proofs.Outlines.{has_segment, payload_below}
use Rattle.packet_fields.proofs.outline.payload_place.Goals as goal

pub overflow_add-result : goal.overflow_add-result
overflow_add-result c =
    let segment = has_segment c.args.frame.now c.args.outline.now c.in_ok-segment.segment c.requires.own c.in_ok-segment.was in
    let below = payload_below c.args.frame.now c.args.outline.now c.in_ok-segment.segment c.in_ok-at.at segment c.in_ok-at.was in
    omega (arith, segment.inside, below)
