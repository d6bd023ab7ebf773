-- Believed: the ten fields of a frame: the place and the bytes of each.
use Rattle.std.specs.Prelude.{codes, ◌≡◌, ◌⊎◌, ℕ, ◌+◌, ◌-◌, ◌%◌, ⊤, List, [], ◌∷◌, ◌++◌, length, take, drop, true, Option, None, option_map}
use Rattle.packet_fields.specs.Frames.{word, type_at, packet_at, packet}
use Rattle.packet_fields.specs.Packets.{span_within, in_header, is_ipv4, ttl_at, source_at, destination_at, address_len, header_span, segment_span, data_span, total_len, protocol, control_bits, header_sum_at, segment_sum_at}
use Rattle.packet_fields.specs.declared.field.Field.{Field}
use Rattle.packet_fields.specs.declared.field.Field.TheVariants.{LinkDst, LinkSrc, Tag, Tos, Ttl, SrcIp, DstIp, SrcPort, DstPort, Payload}
use Rattle.packet_fields.specs.declared.plan.Span.{Span}
use Rattle.packet_fields.specs.declared.plan.Layout.{Layout}

-- a span that lies further back
abbrev pub moved : ℕ → Span → Span
moved by s = record { at = s.at + by; len = s.len }

-- a place of the packet, counted from the frame's front
abbrev pub in_frame : List ℕ → Option Span → Option Span
in_frame frame s = option_map (moved (packet_at frame)) s

-- the tags, maybe none, between the addresses and the EtherType
abbrev pub tag_span : List ℕ → Option Span
tag_span frame = option_map (λ t. record { at = 12; len = t - 12 }) (type_at frame)

-- where a header's field lies: its place in the header (RFC 791, 3.1; RFC 8200, 3; RFC 793, 3.1; RFC 768), its length
-- IPv6's traffic class is no field.
abbrev pub packet_span : Field → List ℕ → Option Span
packet_span Tos p = span_within (is_ipv4 p) (length p) (in_header 1) 1
packet_span Ttl p = header_span p (ttl_at p) 1
packet_span SrcIp p = header_span p (source_at p) (address_len p)
packet_span DstIp p = header_span p (destination_at p) (address_len p)
packet_span SrcPort p = segment_span p 0 2
packet_span DstPort p = segment_span p 2 2
packet_span Payload p = data_span p
packet_span f p = None

-- where a field lies in its frame
abbrev pub span : Field → List ℕ → Option Span
span LinkDst frame = span_within true (length frame) 0 6
span LinkSrc frame = span_within true (length frame) 6 6
span Tag frame = tag_span frame
span f frame = in_frame frame (packet_span f (packet frame))

-- the bytes of a span
abbrev pub bytes_at : List ℕ → Span → List ℕ
bytes_at bytes s = take s.len (drop s.at bytes)

-- these bytes in place of as many, from a place on
abbrev pub overwritten : ℕ → List ℕ → List ℕ → List ℕ
overwritten at new bytes = take at bytes ++ (new ++ drop (length new) (drop at bytes))

-- the bytes of a field, if it is present
abbrev pub value : Field → List ℕ → Option (List ℕ)
value f frame = option_map (bytes_at frame) (span f frame)

-- the frame's EtherType (IEEE 802.3, 3.2.6)
abbrev pub ether_type : List ℕ → Option ℕ
ether_type frame = option_map (word frame) (type_at frame)

-- every place of a frame, and its fixed values
abbrev pub layout_of : List ℕ → Layout
layout_of frame = record {
  spans = span LinkDst frame ∷ span LinkSrc frame ∷ span Tag frame ∷ span Tos frame ∷ span Ttl frame ∷ span SrcIp frame ∷ span DstIp frame ∷ span SrcPort frame ∷ span DstPort frame ∷ span Payload frame ∷ [];
  type_at = type_at frame;
  ether_type = ether_type frame;
  proto = protocol (packet frame);
  ip_len = total_len (packet frame);
  tcp_flags = control_bits (packet frame);
  ip_sum = option_map (λ at. at + packet_at frame) (header_sum_at (packet frame));
  l4_sum = option_map (λ at. at + packet_at frame) (segment_sum_at (packet frame));
}

-- the place of a field in the list of all
abbrev pub number_of : Field → ℕ
number_of LinkDst = 0
number_of LinkSrc = 1
number_of Tag = 2
number_of Tos = 3
number_of Ttl = 4
number_of SrcIp = 5
number_of DstIp = 6
number_of SrcPort = 7
number_of DstPort = 8
number_of Payload = 9

-- the bytes of a field: whole tags of 4 bytes, IPv4 or IPv6 addresses, data of any length, else a fixed number
abbrev pub IsLengthOf : Field → ℕ → Type 0
IsLengthOf LinkDst n = n ≡ 6
IsLengthOf LinkSrc n = n ≡ 6
IsLengthOf Tag n = n % 4 ≡ 0
IsLengthOf Tos n = n ≡ 1
IsLengthOf Ttl n = n ≡ 1
IsLengthOf SrcIp n = (n ≡ 4) ⊎ (n ≡ 16)
IsLengthOf DstIp n = (n ≡ 4) ⊎ (n ≡ 16)
IsLengthOf SrcPort n = n ≡ 2
IsLengthOf DstPort n = n ≡ 2
IsLengthOf Payload n = ⊤

-- the name of a field in printed texts
abbrev pub name_of : Field → List ℕ
name_of LinkDst = codes "link-dst"
name_of LinkSrc = codes "link-src"
name_of Tag = codes "tag"
name_of Tos = codes "tos"
name_of Ttl = codes "ttl"
name_of SrcIp = codes "src"
name_of DstIp = codes "dst"
name_of SrcPort = codes "sport"
name_of DstPort = codes "dport"
name_of Payload = codes "payload"
