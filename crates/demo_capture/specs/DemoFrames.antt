-- Believed: the frame of a record of the demo: Ethernet (IEEE 802.3, 3.1.1), IPv4 (RFC 791, 3.1), and TCP
-- (RFC 793, 3.1) or UDP (RFC 768), with right checksums (RFC 1071).
use Rattle.std.specs.Prelude.{ℕ, ◌+◌, List, [], ◌∷◌, ◌++◌, length, if◌then◌else◌, ◌==◌}
use Rattle.packet_fields.specs.Checksums.{word_bytes}
use Rattle.internet_checksum.specs.Checksums.{checksum_of}
use Rattle.demo_capture.specs.declared.draws.Draws.{Draws}
use Rattle.demo_capture.specs.Draws.{source_of, destination_of, source_port_of, destination_port_of, is_tcp, protocol_of, payload_of}

-- from 02:00:00:00:00:01 to 02:00:00:00:00:02, with EtherType 0x0800
abbrev pub link_header : List ℕ
link_header = 2 ∷ 0 ∷ 0 ∷ 0 ∷ 0 ∷ 2 ∷ 2 ∷ 0 ∷ 0 ∷ 0 ∷ 0 ∷ 1 ∷ 8 ∷ 0 ∷ []

-- a TCP header with this checksum: ports, sequence and acknowledgement 0, data offset 5, the flag ACK, window 0, urgent pointer 0
abbrev pub tcp_header : ℕ → Draws → List ℕ
tcp_header checksum r =
    word_bytes (source_port_of r) ++ word_bytes (destination_port_of r) ++ (0 ∷ 0 ∷ 0 ∷ 0 ∷ []) ++ (0 ∷ 0 ∷ 0 ∷ 0 ∷ [])
    ++ (0x50 ∷ 0x10 ∷ 0 ∷ 0 ∷ []) ++ word_bytes checksum ++ (0 ∷ 0 ∷ [])

-- a UDP header with this checksum: ports, and the length of header and payload
abbrev pub udp_header : ℕ → Draws → List ℕ
udp_header checksum r =
    word_bytes (source_port_of r) ++ word_bytes (destination_port_of r) ++ word_bytes (8 + length (payload_of r)) ++ word_bytes checksum

-- a TCP segment or UDP datagram with this checksum
unfoldable pub segment_with : ℕ → Draws → List ℕ
segment_with checksum r = (if is_tcp r then tcp_header checksum r else udp_header checksum r) ++ payload_of r

abbrev pub segment_len : Draws → ℕ
segment_len r = length (segment_with 0 r)

-- what is before the segment in its sum: both addresses, a zero byte, the protocol, and the segment's length
abbrev pub pseudo_header : Draws → List ℕ
pseudo_header r = source_of r ++ destination_of r ++ (0 ∷ protocol_of r ∷ []) ++ word_bytes (segment_len r)

-- in UDP a checksum that comes out as 0 is written as 0xffff
abbrev pub written_checksum : Draws → ℕ → ℕ
written_checksum r checksum = if is_tcp r then checksum else (if checksum == 0 then 0xffff else checksum)

unfoldable pub segment_checksum : Draws → ℕ
segment_checksum r = written_checksum r (checksum_of (pseudo_header r ++ segment_with 0 r))

-- an IPv4 header with this checksum: five words, Tos 0, length, Id, flags and offset 0, Ttl 64, protocol, addresses
abbrev pub ip_header_with : ℕ → Draws → List ℕ
ip_header_with checksum r =
    (0x45 ∷ 0 ∷ []) ++ word_bytes (20 + segment_len r) ++ (0 ∷ 0 ∷ 0 ∷ 0 ∷ []) ++ (64 ∷ protocol_of r ∷ []) ++ word_bytes checksum
    ++ source_of r ++ destination_of r

unfoldable pub ip_header : Draws → List ℕ
ip_header r = ip_header_with (checksum_of (ip_header_with 0 r)) r

-- the frame with this checksum of its segment
unfoldable pub frame_with : ℕ → Draws → List ℕ
frame_with checksum r = link_header ++ ip_header r ++ segment_with checksum r

abbrev pub frame_of : Draws → List ℕ
frame_of r = frame_with (segment_checksum r) r
