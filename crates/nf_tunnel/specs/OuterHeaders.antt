-- Believed: the header that the entry of a tunnel puts before that of a packet (RFC 2003, 3.1; RFC 791, 3.1).
use Rattle.std.specs.Prelude.{ℕ, ◌+◌, ◌*◌, ◌/◌, ◌%◌, List, [], ◌∷◌, ◌++◌}
use Rattle.std.specs.Net.Addr.{ipv4_octets}
use Rattle.packet_fields.specs.Packets.{header_byte, datagram_len}
use Rattle.packet_fields.specs.Checksums.{word_bytes}
use Rattle.internet_checksum.specs.Checksums.{checksum_of}
use Rattle.nf_tunnel.specs.declared.encap.Encap.{Encap}

-- its type of service is that of the inner header (RFC 2003, 3.1)
abbrev pub type_of_service : List ℕ → ℕ
type_of_service p = header_byte p 1

-- its total length is that of the inner datagram and its own
abbrev pub outer_len : List ℕ → ℕ
outer_len p = datagram_len p + 20

-- its flags: Don't Fragment is that of the inner header, and More Fragments is 0 (RFC 2003, 3.1)
abbrev pub flags : List ℕ → ℕ
flags p = ((header_byte p 6 / 0x40) % 2) * 0x40

-- with this checksum, in five lines as the standard draws them: version 4, five words, type of service, total length;
-- identification 0, flags and fragment offset 0; time to live, the protocol IP in IP, which is 4, and the checksum; the
-- source, which is the entry; and the destination, which is the exit (RFC 791, 3.1; RFC 2003, 3.1)
abbrev pub outer_with : ℕ → Encap → List ℕ → List ℕ
outer_with checksum tunnel p =
    (0x45 ∷ type_of_service p ∷ word_bytes (outer_len p))
    ++ (0 ∷ 0 ∷ flags p ∷ 0 ∷ [])
    ++ (tunnel.ttl ∷ 4 ∷ word_bytes checksum)
    ++ ipv4_octets tunnel.entry
    ++ ipv4_octets tunnel.exit

-- with its own checksum (RFC 791, 3.1; RFC 1071)
unfoldable pub outer_header : Encap → List ℕ → List ℕ
outer_header tunnel p = outer_with (checksum_of (outer_with 0 tunnel p)) tunnel p
