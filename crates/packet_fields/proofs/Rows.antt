-- Worked frames, computed.
use Rattle.std.proofs.Common.{◌≡◌, ℕ, List, [], ◌∷◌, ◌++◌, length, replicate, Some, None, refl, take}
use Rattle.packet_fields.specs.Frames.{tags_len, packet}
use Rattle.packet_fields.specs.Packets.{is_ipv4, is_ipv6, has_transport}
use Rattle.packet_fields.specs.Fields.{value, ether_type, layout_of}
use Rattle.packet_fields.specs.Writing.{with_tags, written_in, rest_of}
use Rattle.packet_fields.specs.Checksums.{words, is_changed, change_sum, has_same_places, sealed, IsRight, segment_of, pseudo_header}
use Rattle.packet_fields.specs.declared.field.Field.TheVariants.{LinkSrc, Tag, Tos, Ttl, SrcIp, DstIp, SrcPort, DstPort, Payload}

-- from 02:00:00:00:00:01 to 02:00:00:00:00:02
abbrev addresses : List ℕ
addresses = 2 ∷ 0 ∷ 0 ∷ 0 ∷ 0 ∷ 2 ∷ 2 ∷ 0 ∷ 0 ∷ 0 ∷ 0 ∷ 1 ∷ []

-- an IPv4 header of this first byte, total length, fragment bytes, protocol and source, to 10.0.0.2, with a checksum
abbrev header : ℕ → ℕ → ℕ → ℕ → List ℕ → List ℕ → List ℕ
header first total fragment protocol sum source = 8 ∷ 0 ∷ first ∷ 0 ∷ 0 ∷ total ∷ 0 ∷ 0 ∷ 0 ∷ fragment ∷ 64 ∷ protocol ∷ sum ++ source ++ (10 ∷ 0 ∷ 0 ∷ 2 ∷ [])

abbrev inside : List ℕ
inside = 10 ∷ 0 ∷ 0 ∷ 1 ∷ []

abbrev outside : List ℕ
outside = 192 ∷ 0 ∷ 2 ∷ 1 ∷ []

-- UDP from a port to port 53, without data, with a checksum
abbrev udp : List ℕ → List ℕ → List ℕ
udp port sum = port ++ (0 ∷ 53 ∷ 0 ∷ 8 ∷ sum)

abbrev port_1000 : List ℕ
port_1000 = 3 ∷ 0xe8 ∷ []

abbrev port_40000 : List ℕ
port_40000 = 0x9c ∷ 0x40 ∷ []

-- TCP from port 1000 to port 53 with this byte of data offset
abbrev tcp : ℕ → List ℕ
tcp offset = 3 ∷ 0xe8 ∷ 0 ∷ 53 ∷ replicate 8 7 ++ (offset ∷ 0x18 ∷ 1 ∷ 0 ∷ 0xab ∷ 0xcd ∷ 0 ∷ 0 ∷ [])

abbrev plain : List ℕ
plain = addresses ++ (header 0x45 28 0 17 (0x66 ∷ 0xcf ∷ []) inside ++ udp port_1000 (0 ∷ 0 ∷ []))

abbrev two_tags : List ℕ
two_tags = 0x88 ∷ 0xa8 ∷ 0 ∷ 0x64 ∷ 0x81 ∷ 0 ∷ 0 ∷ 0x0a ∷ []

source : value SrcIp plain ≡ Some inside
unfolding tags_len is_ipv4 is_ipv6
source = refl

-- after tags
source_behind_tags : value SrcIp (with_tags two_tags plain) ≡ Some inside
unfolding tags_len is_ipv4 is_ipv6
source_behind_tags = refl

tags : value Tag (with_tags two_tags plain) ≡ Some two_tags
unfolding tags_len
tags = refl

port_behind_tags : value DstPort (with_tags two_tags plain) ≡ Some (0 ∷ 53 ∷ [])
unfolding tags_len is_ipv4 is_ipv6 has_transport
port_behind_tags = refl

no_data : value Payload plain ≡ Some []
unfolding tags_len is_ipv4 is_ipv6 has_transport
no_data = refl

-- the last four bytes before the frame's end are no tag: an EtherType could not follow them
type_last : ether_type (addresses ++ 0x81 ∷ 0 ∷ 0 ∷ 7 ∷ []) ≡ Some 0x8100
unfolding tags_len
type_last = refl

-- a frame of 13 bytes has its addresses alone
no_type_in_13_bytes : value Tag (addresses ++ 8 ∷ []) ≡ None
no_type_in_13_bytes = refl

address_in_13_bytes : value LinkSrc (addresses ++ 8 ∷ []) ≡ Some (2 ∷ 0 ∷ 0 ∷ 0 ∷ 0 ∷ 1 ∷ [])
address_in_13_bytes = refl

-- a TCP packet of total length 40, cut to 35 bytes: no port is captured
cut_port : value SrcPort (take 35 (addresses ++ (header 0x45 40 0 6 (0 ∷ 0 ∷ []) inside ++ tcp 0x50))) ≡ None
unfolding tags_len is_ipv4 is_ipv6 has_transport
cut_port = refl

cut_address : value DstIp (take 35 (addresses ++ (header 0x45 40 0 6 (0 ∷ 0 ∷ []) inside ++ tcp 0x50))) ≡ Some (10 ∷ 0 ∷ 0 ∷ 2 ∷ [])
unfolding tags_len is_ipv4 is_ipv6
cut_address = refl

-- a later fragment has no ports
fragment_port : value SrcPort (addresses ++ (header 0x45 40 1 6 (0 ∷ 0 ∷ []) inside ++ tcp 0x50)) ≡ None
unfolding tags_len is_ipv4 is_ipv6 has_transport
fragment_port = refl

-- header lengths of 4, 5 and 15 words
four_words : value SrcIp (addresses ++ (header 0x44 40 0 6 (0 ∷ 0 ∷ []) inside ++ tcp 0x50)) ≡ None
unfolding tags_len is_ipv4 is_ipv6
four_words = refl

fifteen_words : value DstPort (addresses ++ (header 0x4f 80 0 6 (0 ∷ 0 ∷ []) inside ++ (replicate 40 1 ++ tcp 0x50))) ≡ Some (0 ∷ 53 ∷ [])
unfolding tags_len is_ipv4 is_ipv6 has_transport
fifteen_words = refl

-- data offsets of 4, 5 and 15 words, if the datagram ends with its header or a byte before
offset_four : value Payload (addresses ++ (header 0x45 40 0 6 (0 ∷ 0 ∷ []) inside ++ tcp 0x40)) ≡ None
unfolding tags_len is_ipv4 is_ipv6 has_transport
offset_four = refl

offset_five : value Payload (addresses ++ (header 0x45 40 0 6 (0 ∷ 0 ∷ []) inside ++ tcp 0x50)) ≡ Some []
unfolding tags_len is_ipv4 is_ipv6 has_transport
offset_five = refl

offset_fifteen : value Payload (addresses ++ (header 0x45 81 0 6 (0 ∷ 0 ∷ []) inside ++ (tcp 0xf0 ++ (replicate 40 1 ++ (9 ∷ 9 ∷ []))))) ≡ Some (9 ∷ [])
unfolding tags_len is_ipv4 is_ipv6 has_transport
offset_fifteen = refl

offset_past_end : value Payload (addresses ++ (header 0x45 79 0 6 (0 ∷ 0 ∷ []) inside ++ (tcp 0xf0 ++ (replicate 40 1 ++ (9 ∷ 9 ∷ []))))) ≡ None
unfolding tags_len is_ipv4 is_ipv6 has_transport
offset_past_end = refl

-- a third tag is added to a frame of 60 bytes
retagged : length (with_tags (0x81 ∷ 0 ∷ 0 ∷ 7 ∷ two_tags) (with_tags two_tags plain ++ replicate 10 0)) ≡ 64
unfolding tags_len
retagged = refl

-- a translation of 10.0.0.1:1000 to 192.0.2.1:40000 with a UDP checksum before and after
abbrev datagram : List ℕ → List ℕ → List ℕ → List ℕ → List ℕ
datagram address port sum udp_sum = addresses ++ (header 0x45 28 0 17 sum address ++ udp port udp_sum)

right_sum : sealed (datagram inside port_1000 (0x66 ∷ 0xcf ∷ []) (0xe7 ∷ 0xbe ∷ [])) (datagram outside port_40000 (0x66 ∷ 0xcf ∷ []) (0xe7 ∷ 0xbe ∷ [])) ≡ datagram outside port_40000 (0xae ∷ 0xce ∷ []) (0x97 ∷ 0x65 ∷ [])
unfolding tags_len is_ipv4 is_ipv6 has_transport words is_changed change_sum has_same_places
right_sum = refl

wrong_sum : sealed (datagram inside port_1000 (0x66 ∷ 0xcf ∷ []) (0xe7 ∷ 0xbf ∷ [])) (datagram outside port_40000 (0x66 ∷ 0xcf ∷ []) (0xe7 ∷ 0xbf ∷ [])) ≡ datagram outside port_40000 (0xae ∷ 0xce ∷ []) (0x97 ∷ 0x66 ∷ [])
unfolding tags_len is_ipv4 is_ipv6 has_transport words is_changed change_sum has_same_places
wrong_sum = refl

no_sum : sealed (datagram inside port_1000 (0x66 ∷ 0xcf ∷ []) (0 ∷ 0 ∷ [])) (datagram outside port_40000 (0x66 ∷ 0xcf ∷ []) (0 ∷ 0 ∷ [])) ≡ datagram outside port_40000 (0xae ∷ 0xce ∷ []) (0 ∷ 0 ∷ [])
unfolding tags_len is_ipv4 is_ipv6 has_transport words is_changed change_sum has_same_places
no_sum = refl

-- four bytes of data after a UDP header with a length of its own and a checksum
abbrev counted : ℕ → List ℕ → List ℕ → List ℕ
counted len sum payload = addresses ++ (header 0x45 32 0 17 (0x66 ∷ 0xcb ∷ []) inside ++ ((3 ∷ 0xe8 ∷ 0 ∷ 53 ∷ 0 ∷ len ∷ sum) ++ payload))

abbrev abcd : List ℕ
abcd = 0x61 ∷ 0x62 ∷ 0x63 ∷ 0x64 ∷ []

-- the data goes up to the IP datagram's end, and the bytes under the checksum to the end that UDP's length gives
data_behind : value Payload (counted 10 (0x86 ∷ 0x58 ∷ []) abcd) ≡ Some abcd
unfolding tags_len is_ipv4 is_ipv6 has_transport
data_behind = refl

own_length_right : IsRight (pseudo_header (packet (counted 10 (0x86 ∷ 0x58 ∷ []) abcd)) ++ words (segment_of (packet (counted 10 (0x86 ∷ 0x58 ∷ []) abcd))))
unfolding tags_len is_ipv4 is_ipv6 has_transport words
own_length_right = refl

within_length : sealed (counted 10 (0x86 ∷ 0x58 ∷ []) abcd) (counted 10 (0x86 ∷ 0x58 ∷ []) (0x78 ∷ 0x79 ∷ 0x63 ∷ 0x64 ∷ [])) ≡ counted 10 (0x6f ∷ 0x41 ∷ []) (0x78 ∷ 0x79 ∷ 0x63 ∷ 0x64 ∷ [])
unfolding tags_len is_ipv4 is_ipv6 has_transport words is_changed change_sum has_same_places
within_length = refl

behind_length : sealed (counted 10 (0x86 ∷ 0x58 ∷ []) abcd) (counted 10 (0x86 ∷ 0x58 ∷ []) (0x61 ∷ 0x62 ∷ 0x78 ∷ 0x79 ∷ [])) ≡ counted 10 (0x86 ∷ 0x58 ∷ []) (0x61 ∷ 0x62 ∷ 0x78 ∷ 0x79 ∷ [])
unfolding tags_len is_ipv4 is_ipv6 has_transport words is_changed change_sum has_same_places
behind_length = refl

-- an odd length: its last byte is the high byte of a word, and the byte after it counts no more
odd_length : sealed (counted 9 (0x86 ∷ 0xbc ∷ []) abcd) (counted 9 (0x86 ∷ 0xbc ∷ []) (0x78 ∷ 0x79 ∷ 0x63 ∷ 0x64 ∷ [])) ≡ counted 9 (0x6f ∷ 0xbc ∷ []) (0x78 ∷ 0x79 ∷ 0x63 ∷ 0x64 ∷ [])
unfolding tags_len is_ipv4 is_ipv6 has_transport words is_changed change_sum has_same_places
odd_length = refl

-- a length below that of the header, and one past the IP datagram's end: all the data counts
short_length : sealed (counted 7 (0x12 ∷ 0x34 ∷ []) abcd) (counted 7 (0x12 ∷ 0x34 ∷ []) (0x61 ∷ 0x62 ∷ 0x78 ∷ 0x79 ∷ [])) ≡ counted 7 (0xfd ∷ 0x1e ∷ []) (0x61 ∷ 0x62 ∷ 0x78 ∷ 0x79 ∷ [])
unfolding tags_len is_ipv4 is_ipv6 has_transport words is_changed change_sum has_same_places
short_length = refl

long_length : sealed (counted 99 (0x12 ∷ 0x34 ∷ []) abcd) (counted 99 (0x12 ∷ 0x34 ∷ []) (0x61 ∷ 0x62 ∷ 0x78 ∷ 0x79 ∷ [])) ≡ counted 99 (0xfd ∷ 0x1e ∷ []) (0x61 ∷ 0x62 ∷ 0x78 ∷ 0x79 ∷ [])
unfolding tags_len is_ipv4 is_ipv6 has_transport words is_changed change_sum has_same_places
long_length = refl

-- the rest of a frame has no tags, and zeros for its fields
rest : rest_of (with_tags two_tags plain) ≡ replicate 12 0 ++ (8 ∷ 0 ∷ 0x45 ∷ 0 ∷ 0 ∷ 28 ∷ 0 ∷ 0 ∷ 0 ∷ 0 ∷ 0 ∷ 17 ∷ 0x66 ∷ 0xcf ∷ replicate 12 0 ++ (0 ∷ 8 ∷ 0 ∷ 0 ∷ []))
unfolding tags_len is_ipv4 is_ipv6 has_transport written_in
rest = refl

-- IPv6 from 2001:db8::1 to 2001:db8:: with this last byte; first byte, payload length, next header, and what follows
abbrev prefix : List ℕ
prefix = 0x20 ∷ 1 ∷ 0x0d ∷ 0xb8 ∷ replicate 11 0

abbrev six : ℕ → List ℕ → ℕ → ℕ → List ℕ → List ℕ
six first payload next last behind = addresses ++ (0x86 ∷ 0xdd ∷ first ∷ 0 ∷ 0 ∷ 0 ∷ payload ++ (next ∷ 64 ∷ prefix ++ (1 ∷ prefix ++ (last ∷ behind))))

-- UDP from port 1000 to port 53, without data, of 62 bytes
abbrev plain_six : List ℕ
plain_six = six 0x60 (0 ∷ 8 ∷ []) 17 2 (udp port_1000 (0xa0 ∷ 0x4c ∷ []))

six_length : length plain_six ≡ 62
six_length = refl

six_layout : layout_of plain_six ≡ record {
  spans = Some (record { at = 0; len = 6 }) ∷ Some (record { at = 6; len = 6 }) ∷ Some (record { at = 12; len = 0 }) ∷ None ∷ Some (record { at = 21; len = 1 }) ∷ Some (record { at = 22; len = 16 }) ∷ Some (record { at = 38; len = 16 }) ∷ Some (record { at = 54; len = 2 }) ∷ Some (record { at = 56; len = 2 }) ∷ Some (record { at = 62; len = 0 }) ∷ [];
  type_at = Some 12;
  ether_type = Some 0x86dd;
  proto = Some 17;
  ip_len = Some 48;
  tcp_flags = None;
  ip_sum = None;
  l4_sum = Some 60;
}
unfolding tags_len is_ipv4 is_ipv6 has_transport
six_layout = refl

six_source : value SrcIp plain_six ≡ Some (prefix ++ (1 ∷ []))
unfolding tags_len is_ipv4 is_ipv6
six_source = refl

six_port_behind_tags : value DstPort (with_tags two_tags plain_six) ≡ Some (0 ∷ 53 ∷ [])
unfolding tags_len is_ipv4 is_ipv6 has_transport
six_port_behind_tags = refl

six_ttl : value Ttl plain_six ≡ Some (64 ∷ [])
unfolding tags_len is_ipv4 is_ipv6
six_ttl = refl

six_tos : value Tos plain_six ≡ None
unfolding tags_len is_ipv4 is_ipv6
six_tos = refl

-- the EtherType of IPv6 and the version of IPv4
other_version : value SrcIp (six 0x45 (0 ∷ 8 ∷ []) 17 2 (udp port_1000 (0 ∷ 0 ∷ []))) ≡ None
unfolding tags_len is_ipv4 is_ipv6
other_version = refl

-- a fragment header follows the IPv6 header, and is not followed further
extension_port : value SrcPort (six 0x60 (0 ∷ 16 ∷ []) 44 2 (17 ∷ replicate 7 0 ++ udp port_1000 (0 ∷ 0 ∷ []))) ≡ None
unfolding tags_len is_ipv4 is_ipv6 has_transport
extension_port = refl

-- with the header's 40 bytes the length 65,495 fits in 16 bits, and 65,496 doesn't
longest : value DstPort (six 0x60 (0xff ∷ 0xd7 ∷ []) 17 2 (udp port_1000 (0 ∷ 0 ∷ []))) ≡ Some (0 ∷ 53 ∷ [])
unfolding tags_len is_ipv4 is_ipv6 has_transport
longest = refl

too_long : value DstPort (six 0x60 (0xff ∷ 0xd8 ∷ []) 17 2 (udp port_1000 (0 ∷ 0 ∷ []))) ≡ None
unfolding tags_len is_ipv4 is_ipv6 has_transport
too_long = refl

-- the payload length ends the datagram before the capture ends
six_data : value Payload (six 0x60 (0 ∷ 21 ∷ []) 6 2 (tcp 0x50 ++ (9 ∷ 9 ∷ []))) ≡ Some (9 ∷ [])
unfolding tags_len is_ipv4 is_ipv6 has_transport
six_data = refl

-- a translation of 2001:db8::2 to 2001:db8::9 with a UDP checksum before and after
six_sum : sealed plain_six (six 0x60 (0 ∷ 8 ∷ []) 17 9 (udp port_1000 (0xa0 ∷ 0x4c ∷ []))) ≡ six 0x60 (0 ∷ 8 ∷ []) 17 9 (udp port_1000 (0xa0 ∷ 0x45 ∷ []))
unfolding tags_len is_ipv4 is_ipv6 has_transport words is_changed change_sum has_same_places
six_sum = refl

six_rest : rest_of plain_six ≡ replicate 12 0 ++ (0x86 ∷ 0xdd ∷ 0x60 ∷ 0 ∷ 0 ∷ 0 ∷ 0 ∷ 8 ∷ 17 ∷ replicate 37 0 ++ (0 ∷ 8 ∷ 0xa0 ∷ 0x4c ∷ []))
unfolding tags_len is_ipv4 is_ipv6 has_transport written_in
six_rest = refl
