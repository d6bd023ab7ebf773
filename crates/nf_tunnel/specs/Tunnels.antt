-- Believed: a frame after the entry of a tunnel, and after its exit (RFC 2003).
use Rattle.std.specs.Prelude.{ℕ, ◌+◌, ◌/◌, ◌%◌, List, ◌++◌, length, take, drop, Bool, if◌then◌else◌, ◌==◌, ◌&&◌, nat_le, nat_lt, slice_index}
use Rattle.std.specs.Str.{bytes_eq}
use Rattle.std.specs.Net.Addr.{ipv4_octets}
use Rattle.packet_fields.specs.Frames.{packet_at, packet}
use Rattle.packet_fields.specs.Packets.{in_header, header_byte, header_word, is_ipv4, header_len, datagram_len, segment_at}
use Rattle.nf_tunnel.specs.declared.encap.Encap.{Encap}
use Rattle.nf_tunnel.specs.declared.decap.Decap.{Decap}
use Rattle.nf_tunnel.specs.OuterHeaders.{outer_header}

-- where the IP header begins in a frame: after the two bytes of the EtherType
abbrev pub header_at : List ℕ → ℕ
header_at frame = packet_at frame + 2

-- a packet has an IPv4 header, all of whose bytes are captured (RFC 791, 3.1)
abbrev pub has_ipv4_header : List ℕ → Bool
has_ipv4_header p = is_ipv4 p && nat_le (segment_at p) (length p)

-- its header lies within the datagram's length; this length plus 20 bytes still fits its 16 bits (RFC 791, 3.1)
abbrev pub fits : List ℕ → Bool
fits p = nat_le (header_len p) (datagram_len p) && nat_le (datagram_len p) 65515

-- a packet enters a tunnel
unfoldable pub enters : List ℕ → Bool
enters p = has_ipv4_header p && fits p

-- after the entry: what is before the IP header, the outer header, the IP header and all that follows it (RFC 2003, 3)
abbrev pub encapsulated : Encap → List ℕ → List ℕ
encapsulated tunnel frame =
    if enters (packet frame) then take (header_at frame) frame ++ (outer_header tunnel (packet frame) ++ drop (header_at frame) frame) else frame

-- a packet is sent to the exit (RFC 2003, 3.1)
abbrev pub is_for : Decap → List ℕ → Bool
is_for tunnel p = bytes_eq (take 4 (drop (in_header 16) p)) (ipv4_octets tunnel.exit)

-- it is no fragment: More Fragments is 0, and so are the 13 bits of the fragment offset after it (RFC 791, 3.1)
abbrev pub is_whole : List ℕ → Bool
is_whole p = header_word p 6 % 0x4000 == 0

-- after its header, within the datagram, a byte is captured that begins an IPv4 header (RFC 791, 3.1)
abbrev pub holds_ipv4 : List ℕ → Bool
holds_ipv4 p = nat_lt (header_len p) (datagram_len p) && (nat_lt (segment_at p) (length p) && (slice_index p (segment_at p) / 16 == 4))

-- its protocol is IP in IP, which is 4, it is sent to the exit, no fragment, and holds a packet (RFC 2003, 3.1)
abbrev pub arrives : Decap → List ℕ → Bool
arrives tunnel p = (header_byte p 9 == 4) && (is_for tunnel p && (is_whole p && holds_ipv4 p))

-- a packet leaves the tunnel
unfoldable pub leaves : Decap → List ℕ → Bool
leaves tunnel p = has_ipv4_header p && arrives tunnel p

-- after the exit: what is before the outer header, and what follows it (RFC 2003, 3)
abbrev pub decapsulated : Decap → List ℕ → List ℕ
decapsulated tunnel frame =
    if leaves tunnel (packet frame) then take (header_at frame) frame ++ drop (header_at frame + header_len (packet frame)) frame else frame
