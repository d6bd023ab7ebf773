-- Believed: the places of a packet's fields, header by header.
use Rattle.std.specs.Prelude.{ℕ, List}
use Rattle.packet_fields.specs.Packets.{total_len, protocol, control_bits, header_sum_at, segment_sum_at}
use Rattle.packet_fields.specs.Fields.{packet_span}
use Rattle.packet_fields.specs.declared.field.Field.TheVariants.{Tos, Ttl, SrcIp, DstIp, SrcPort, DstPort, Payload}
use Rattle.packet_fields.specs.declared.packet.HeaderPlan.{HeaderPlan}
use Rattle.packet_fields.specs.declared.transport.SegmentPlan.{SegmentPlan}

-- the fields of the IP header
abbrev pub header_plan_of : List ℕ → HeaderPlan
header_plan_of packet = record {
  tos = packet_span Tos packet;
  ttl = packet_span Ttl packet;
  src_ip = packet_span SrcIp packet;
  dst_ip = packet_span DstIp packet;
  proto = protocol packet;
  total_len = total_len packet;
  sum_at = header_sum_at packet;
}

-- the fields of the TCP or UDP header, and the data after it
abbrev pub segment_plan_of : List ℕ → SegmentPlan
segment_plan_of packet = record {
  src_port = packet_span SrcPort packet;
  dst_port = packet_span DstPort packet;
  payload = packet_span Payload packet;
  control_bits = control_bits packet;
  sum_at = segment_sum_at packet;
}
