-- For proofs: the outline of a frame, from which the place of each field follows.
use Rattle.std.specs.Prelude.{ℕ, List, Bool, if◌then◌else◌, Option, Some, None, option_map}
use Rattle.packet_fields.specs.Frames.{packet_at, packet}
use Rattle.packet_fields.specs.Packets.{in_header, is_ipv4, is_ipv6, by_version, length_at, ttl_at, protocol_at, source_at, destination_at, address_len, has_transport, segment_at, datagram_end, data_span}
use Rattle.packet_fields.specs.declared.packet.IpVersion.{IpVersion}
use Rattle.packet_fields.specs.declared.packet.IpVersion.TheVariants.{V4, V6}
use Rattle.packet_fields.specs.declared.packet.HeaderFormat.{HeaderFormat}
use Rattle.packet_fields.specs.declared.outline.Outline.{Outline}
use Rattle.packet_fields.specs.declared.outline.Segment.{Segment}

-- which IP header begins
abbrev pub version_of : List ℕ → Option IpVersion
version_of packet = if is_ipv4 packet then Some V4 else (if is_ipv6 packet then Some V6 else None)

-- a header of this version begins
abbrev pub is_version : IpVersion → List ℕ → Bool
is_version V4 packet = is_ipv4 packet
is_version V6 packet = is_ipv6 packet

-- where the fields of the IP header are in the packet
abbrev pub format_of : List ℕ → HeaderFormat
format_of packet = record {
  total_len = in_header (length_at packet);
  uncounted = by_version packet 0 40;
  ttl = in_header (ttl_at packet);
  protocol = in_header (protocol_at packet);
  src_ip = in_header (source_at packet);
  dst_ip = in_header (destination_at packet);
  address_len = address_len packet;
}

-- the TCP segment or UDP datagram in a packet, if one begins after the IP header
abbrev pub segment_in : List ℕ → Option Segment
segment_in packet = if has_transport packet then Some (record { at = segment_at packet; end = datagram_end packet; payload = option_map (λ s. s.at) (data_span packet) }) else None

-- where the packet begins, which IP header begins there, and the segment after it
abbrev pub outline_of : List ℕ → Outline
outline_of frame = record { start = packet_at frame; version = version_of (packet frame); segment = segment_in (packet frame) }
