use Rattle.std.proofs.Common.{◌≡◌, ◌∙◌, rules, sym, arith}
use Rattle.std.specs.Prelude.{None}
use Rattle.std.proofs.lemmas.Grind.{common_steps}
use Rattle.packet_fields.specs.Outlines.{version_of}
use Rattle.packet_fields.proofs.Versions.{no_transport}
use Rattle.packet_fields.proofs.Formats.{segment_plan-none, segment_plan-there}
use Rattle.packet_fields.proofs.transport.segment_plan.Goals as goal

pub returns-in_default-clause-plan : goal.returns-in_default-clause-plan
returns-in_default-clause-plan c =
    let gone : None ≡ version_of c.args.packet.now = first_of (search rules, grind (arith, common_steps)) in
    c.none.ensures ∙ segment_plan-none c.args.packet.now (no_transport c.args.packet.now gone)

pub returns-clause-plan : goal.returns-clause-plan
returns-clause-plan c =
    segment_plan-there c.args.packet.now c.is_udp-is_udp.result c.segment_at-start.result c.datagram_end-end.result c.checksum_at-sum.result c.within.result c.within-2.result c.data_span.result c.byte.result c.place.result
    (sym c.if-not-has_segment.ensures) c.is_udp-is_udp.ensures c.segment_at-start.ensures.at c.datagram_end-end.ensures.end c.checksum_at-sum.ensures
    c.within.ensures.span c.within-2.ensures.span c.data_span.ensures.span c.byte.ensures c.place.ensures.place
