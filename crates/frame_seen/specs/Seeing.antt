-- Believed: what the clauses of a policy see of a packet, as numbers, most significant byte first.
use Rattle.std.specs.Prelude.{ℕ, ◌%◌, ◌==◌, if◌then◌else◌, List, length, take, drop, Option, Some, None}
use Rattle.std.specs.Option.{option_map, option_map_or, option_and_then}
use Rattle.std.specs.Net.Addr.{segments_of}
use Rattle.std.specs.declared.net.ip_addr.IpAddr.{IpAddr}
use Rattle.std.specs.declared.net.ip_addr.IpAddr.TheVariants.{V4, V6}
use Rattle.byteorder.specs.Endian.{big_number}
use Rattle.packet_fields.specs.Fields.{value, ether_type}
use Rattle.packet_fields.specs.Frames.{packet}
use Rattle.packet_fields.specs.Packets.{protocol, control_bits}
use Rattle.packet_fields.specs.declared.field.Field.{Field}
use Rattle.packet_fields.specs.declared.field.Field.TheVariants.{Tag, SrcIp, DstIp, SrcPort, DstPort}
use Rattle.policy_text.specs.declared.seen.Seen.{Seen}
use Rattle.policy_text.specs.declared.seen.TagSeen.{TagSeen}
use Rattle.policy_text.specs.declared.seen.TagSeen.TheVariants.{Absent, Bare, Id}

-- the VLAN id of a tag: the low twelve bits of its control information, which follows the two bytes of the tag's
-- own identifier (IEEE 802.1Q, 9.6)
abbrev pub vlan_id : List ℕ → ℕ
vlan_id tag = big_number 2 (take 2 (drop 2 tag)) % 4096

-- the outermost tag is first
abbrev pub outermost : List ℕ → TagSeen
outermost tags = if length tags == 0 then Bare else Id (vlan_id tags)

-- an address of this number of bytes as a number: 4 bytes are IPv4 (RFC 791, 3.1), 16 IPv6 (RFC 8200, 3)
abbrev pub address_of : ℕ → List ℕ → Option ℕ
address_of size bytes = if length bytes == size then Some (big_number size bytes) else None

-- the address, of either version, that these bytes are
abbrev pub ip_address_of : List ℕ → Option IpAddr
ip_address_of bytes =
    if length bytes == 4 then Some (V4 (record { octets = bytes })) else
    if length bytes == 16 then Some (V6 (record { segments = segments_of bytes })) else None

-- where a packet comes from, and where it goes, by the values of its fields
abbrev pub source_address : (Field → Option (List ℕ)) → Option IpAddr
source_address values = option_and_then ip_address_of (values SrcIp)

abbrev pub destination_address : (Field → Option (List ℕ)) → Option IpAddr
destination_address values = option_and_then ip_address_of (values DstIp)

-- what is seen if the fields have these values, by the EtherType, the protocol of the IP header, and TCP's control bits
abbrev pub seen_with : (Field → Option (List ℕ)) → Option ℕ → Option ℕ → Option ℕ → Seen
seen_with values ether_type proto flags = record {
  tag = option_map_or outermost (values Tag) Absent;
  src = option_and_then (address_of 4) (values SrcIp);
  dst = option_and_then (address_of 4) (values DstIp);
  src6 = option_and_then (address_of 16) (values SrcIp);
  dst6 = option_and_then (address_of 16) (values DstIp);
  sport = option_map (big_number 2) (values SrcPort);
  dport = option_map (big_number 2) (values DstPort);
  proto = proto;
  ether_type = ether_type;
  tcp_flags = flags;
}

-- what is seen by the protocol alone
abbrev pub seen_by : (Field → Option (List ℕ)) → Option ℕ → Seen
seen_by values proto = seen_with values None proto None

-- what is seen of a frame
abbrev pub seen_of : List ℕ → Seen
seen_of frame = seen_with (λ f. value f frame) (ether_type frame) (protocol (packet frame)) (control_bits (packet frame))
