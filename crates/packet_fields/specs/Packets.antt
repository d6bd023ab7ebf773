-- Believed: IPv4 (RFC 791), IPv6 (RFC 8200), TCP (RFC 793), UDP (RFC 768) in a packet, which begins with its EtherType.
-- A place in a header counts from the header's first byte, as in its RFC.
use Rattle.std.specs.Prelude.{ℕ, ◌+◌, ◌-◌, ◌*◌, ◌/◌, ◌%◌, min, List, length, Bool, if◌then◌else◌, ◌==◌, ◌&&◌, ◌||◌, nat_le, nat_lt, is_some, Option, Some, None, option_map, slice_index}
use Rattle.packet_fields.specs.Frames.{word}
use Rattle.packet_fields.specs.declared.plan.Span.{Span}

-- some bytes that lie below a limit
abbrev pub span_within : Bool → ℕ → ℕ → ℕ → Option Span
span_within there limit at len = if there && nat_le (at + len) limit then Some (record { at = at; len = len }) else None

-- the same for a place alone
abbrev pub place_within : Bool → ℕ → ℕ → ℕ → Option ℕ
place_within there limit at len = if there && nat_le (at + len) limit then Some at else None

-- the byte at a place that lies below a limit
abbrev pub byte_within : Bool → ℕ → List ℕ → ℕ → Option ℕ
byte_within there limit bytes at = if there && nat_lt at limit then Some (slice_index bytes at) else None

-- where a place of the IP header lies in the packet: the header begins after the two bytes of the EtherType
abbrev pub in_header : ℕ → ℕ
in_header at = at + 2

-- the byte at a place of the IP header
abbrev pub header_byte : List ℕ → ℕ → ℕ
header_byte packet at = slice_index packet (in_header at)

-- the 16-bit number at a place of the IP header
abbrev pub header_word : List ℕ → ℕ → ℕ
header_word packet at = word packet (in_header at)

-- an IPv4 header begins: EtherType 0x0800, version 4, at least five words of header (RFC 791, 3.1)
unfoldable pub is_ipv4 : List ℕ → Bool
is_ipv4 packet = nat_lt (in_header 0) (length packet) && ((word packet 0 == 0x0800) && ((header_byte packet 0 / 16 == 4) && nat_le 5 (header_byte packet 0 % 16)))

-- an IPv6 header begins: EtherType 0x86dd (RFC 2464, 3), version 6 (RFC 8200, 3)
unfoldable pub is_ipv6 : List ℕ → Bool
is_ipv6 packet = nat_lt (in_header 0) (length packet) && ((word packet 0 == 0x86dd) && (header_byte packet 0 / 16 == 6))

-- an IP header of either version begins
abbrev pub has_header : List ℕ → Bool
has_header packet = is_ipv4 packet || is_ipv6 packet

-- a number for IPv4's header, or for IPv6's
abbrev pub by_version : List ℕ → ℕ → ℕ → ℕ
by_version packet four six = if is_ipv6 packet then six else four

-- the header's length in bytes: IHL counts words of four bytes (RFC 791, 3.1); IPv6's header has 40 (RFC 8200, 3)
abbrev pub header_len : List ℕ → ℕ
header_len packet = by_version packet (4 * (header_byte packet 0 % 16)) 40

-- the bytes of an address (RFC 791, 3.1; RFC 8200, 3)
abbrev pub address_len : List ℕ → ℕ
address_len packet = by_version packet 4 16

-- where the source's address begins in the header (RFC 791, 3.1; RFC 8200, 3), and where the destination's does
abbrev pub source_at : List ℕ → ℕ
source_at packet = by_version packet 12 8

abbrev pub destination_at : List ℕ → ℕ
destination_at packet = by_version packet 16 24

-- where the time to live is in the header (RFC 791, 3.1), which IPv6 calls hop limit (RFC 8200, 3)
abbrev pub ttl_at : List ℕ → ℕ
ttl_at packet = by_version packet 8 7

-- where the protocol is in the header (RFC 791, 3.1), which IPv6 calls next header (RFC 8200, 3)
abbrev pub protocol_at : List ℕ → ℕ
protocol_at packet = by_version packet 9 6

-- some bytes of the IP header, if they are captured
abbrev pub header_span : List ℕ → ℕ → ℕ → Option Span
header_span packet at len = span_within (has_header packet) (length packet) (in_header at) len

-- where the length is in the header (RFC 791, 3.1; RFC 8200, 3)
abbrev pub length_at : List ℕ → ℕ
length_at packet = by_version packet 2 4

-- the datagram's length: IPv4's counts the header (RFC 791, 3.1), IPv6's only what follows it (RFC 8200, 3)
abbrev pub datagram_len : List ℕ → ℕ
datagram_len packet = by_version packet (header_word packet 2) (header_word packet 4 + 40)

-- the same, if it is captured and fits in 16 bits, as IPv4's always does
abbrev pub total_len : List ℕ → Option ℕ
total_len packet = if has_header packet && (nat_le (in_header (length_at packet + 2)) (length packet) && (is_ipv4 packet || nat_le (datagram_len packet) 65535)) then Some (datagram_len packet) else None

-- the protocol of the data after the header
abbrev pub protocol : List ℕ → Option ℕ
protocol packet = byte_within (has_header packet) (length packet) packet (in_header (protocol_at packet))

abbrev pub is_tcp : List ℕ → Bool
is_tcp packet = header_byte packet (protocol_at packet) == 6

abbrev pub is_udp : List ℕ → Bool
is_udp packet = header_byte packet (protocol_at packet) == 17

-- the packet is no later fragment: IPv4's fragment offset of 13 bits is 0 (RFC 791, 3.1); IPv6's header has none
abbrev pub is_first : List ℕ → Bool
is_first packet = is_ipv6 packet || (header_word packet 6 % 8192 == 0)

-- the IP header lies within the datagram's length, which is captured
abbrev pub has_whole_header : List ℕ → Bool
has_whole_header packet = is_some (total_len packet) && nat_le (header_len packet) (datagram_len packet)

-- the protocol is captured, and is TCP or UDP
abbrev pub has_transport_protocol : List ℕ → Bool
has_transport_protocol packet = is_some (protocol packet) && (is_tcp packet || is_udp packet)

-- a TCP or UDP header begins after the IP header; IPv6's extension headers are not followed (RFC 8200, 4)
unfoldable pub has_transport : List ℕ → Bool
has_transport packet = has_transport_protocol packet && (is_first packet && has_whole_header packet)

-- where the transport header begins: after the IP header
abbrev pub segment_at : List ℕ → ℕ
segment_at packet = in_header (header_len packet)

-- where a place of the transport header lies in the packet
abbrev pub in_segment : List ℕ → ℕ → ℕ
in_segment packet at = segment_at packet + at

-- where the captured bytes of the datagram end: bytes after its length are no part of it
abbrev pub datagram_end : List ℕ → ℕ
datagram_end packet = min (length packet) (in_header (datagram_len packet))

-- some bytes of the transport header, if they are captured
abbrev pub segment_span : List ℕ → ℕ → ℕ → Option Span
segment_span packet at len = span_within (has_transport packet) (datagram_end packet) (in_segment packet at) len

-- TCP's data offset, which counts words of four bytes (RFC 793, 3.1)
abbrev pub data_offset : List ℕ → ℕ
data_offset packet = slice_index packet (in_segment packet 12) / 16

-- where the data after the transport header begins
abbrev pub data_at : List ℕ → ℕ
data_at packet = if is_udp packet then in_segment packet 8 else 4 * data_offset packet + segment_at packet

-- the length of the transport header is known: UDP's is 8, TCP's data offset is captured and at least 5
abbrev pub has_data : List ℕ → Bool
has_data packet = has_transport packet && (is_udp packet || (nat_lt (in_segment packet 12) (datagram_end packet) && nat_le 5 (data_offset packet)))

-- the data of the datagram, as far as it is captured; it may be empty
abbrev pub data_span : List ℕ → Option Span
data_span packet = if has_data packet && nat_le (data_at packet) (datagram_end packet) then Some (record { at = data_at packet; len = datagram_end packet - data_at packet }) else None

-- the length in a UDP header, which counts the header and its data (RFC 768)
abbrev pub udp_len : List ℕ → ℕ
udp_len packet = word packet (in_segment packet 4)

-- the same, if it counts at least the header's 8 bytes; a lower one says nothing
abbrev pub has_udp_len : List ℕ → Bool
has_udp_len packet = has_transport packet && (is_udp packet && nat_le 8 (udp_len packet))

-- where the captured bytes under the TCP or UDP checksum end: with those of the datagram, and in UDP no later than its
-- own length says (RFC 768; RFC 8200, 8.1)
abbrev pub summed_end : List ℕ → ℕ
summed_end packet = if has_udp_len packet then min (datagram_end packet) (in_segment packet (udp_len packet)) else datagram_end packet

-- the data under the checksum
abbrev pub summed_span : List ℕ → Option Span
summed_span packet = option_map (λ s. record { at = s.at; len = summed_end packet - s.at }) (data_span packet)

-- TCP's control bits (RFC 793, 3.1)
abbrev pub control_bits : List ℕ → Option ℕ
control_bits packet = byte_within (has_transport packet && is_tcp packet) (datagram_end packet) packet (in_segment packet 13)

-- where the header checksum lies (RFC 791, 3.1); IPv6's header has none (RFC 8200, 3)
abbrev pub header_sum_at : List ℕ → Option ℕ
header_sum_at packet = place_within (is_ipv4 packet) (length packet) (in_header 10) 2

-- the place of the checksum in a TCP or UDP header (RFC 793, 3.1; RFC 768)
abbrev pub checksum_at : List ℕ → ℕ
checksum_at packet = if is_udp packet then in_segment packet 6 else in_segment packet 16

-- the same, if the checksum is captured
abbrev pub segment_sum_at : List ℕ → Option ℕ
segment_sum_at packet = place_within (has_transport packet) (datagram_end packet) (checksum_at packet) 2
