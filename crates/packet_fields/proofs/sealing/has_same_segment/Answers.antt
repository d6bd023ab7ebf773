use Rattle.std.proofs.Common.{◌∙◌, ap, sym}
use Rattle.std.specs.Option.{is_some}
use Rattle.packet_fields.specs.Checksums.{same_segment_plan}
use Rattle.packet_fields.specs.declared.transport.SegmentPlan.{SegmentPlan}
use Rattle.packet_fields.proofs.Overwriting.{cong2}
use Rattle.packet_fields.proofs.SamePlaces.{headers_parts, udp_segment, tcp_segment, tcp_kind}
use Rattle.packet_fields.proofs.sealing.has_same_segment.Goals as goal

pub returns-then-is_none : goal.returns-then-is_none
returns-then-is_none c = c.eq.ensures ∙ cong2 (λ (a b : SegmentPlan). same_segment_plan a b) c.requires.plan c.segment_plan.ensures.plan

pub has_data_of-requires-clause-tcp : goal.has_data_of-requires-clause-tcp
has_data_of-requires-clause-tcp c =
    tcp_kind c.args.old.now c.args.new.now (headers_parts c.args.old.now c.args.new.now c.requires.headers) (ap (λ (x : SegmentPlan). is_some x.src_port) (sym c.requires.plan) ∙ c.if-is_none.ensures) (sym c.if-has_segment.ensures) (sym c.if-is_udp.ensures)

pub returns-then-is_udp : goal.returns-then-is_udp
returns-then-is_udp c =
    c.is_udp.ensures ∙ udp_segment c.args.old.now c.args.new.now (headers_parts c.args.old.now c.args.new.now c.requires.headers) (ap (λ (x : SegmentPlan). is_some x.src_port) (sym c.requires.plan) ∙ c.if-is_none.ensures) (sym c.if-has_segment.ensures)
    (sym c.if-is_udp.ensures)

pub returns-else-is_udp : goal.returns-else-is_udp
returns-else-is_udp c =
    tcp_segment c.args.old.now c.args.new.now c.args.plan.now c.has_data_of.result (headers_parts c.args.old.now c.args.new.now c.requires.headers) (ap (λ (x : SegmentPlan). is_some x.src_port) (sym c.requires.plan) ∙ c.if-is_none.ensures) (sym c.if-has_segment.ensures)
    (sym c.if-is_udp.ensures) c.requires.plan c.has_data_of.ensures
