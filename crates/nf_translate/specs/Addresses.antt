-- Believed: addresses and ports as the bytes of a field, and addresses of either version of IP.
use Rattle.std.specs.Prelude.{ℕ, List, Bool, true, false, Option}
use Rattle.std.specs.Int.{w16, w32, w128, to_be_bytes}
use Rattle.std.specs.Option.{option_map, option_or}
use Rattle.std.specs.Net.Addr.{ipv4_octets, ipv6_octets, segments_of}
use Rattle.std.specs.declared.net.ip_addr.IpAddr.{IpAddr}
use Rattle.std.specs.declared.net.ip_addr.IpAddr.TheVariants.{V4, V6}
use Rattle.policy_text.specs.Values.{address_of}
use Rattle.policy_text.specs.Addresses6.{address6_of}

-- the four bytes of an IPv4 address, the highest first (RFC 791, 3.1)
abbrev pub address_bytes : ℕ → List ℕ
address_bytes address = to_be_bytes w32 address

-- the two bytes of a port, the highest first (RFC 793, 3.1; RFC 768)
abbrev pub port_bytes : ℕ → List ℕ
port_bytes port = to_be_bytes w16 port

-- the bytes of an address, the highest first: four for IPv4 (RFC 791, 3.1), sixteen for IPv6 (RFC 8200, 3)
abbrev pub ip_address_bytes : IpAddr → List ℕ
ip_address_bytes (V4 address) = ipv4_octets address
ip_address_bytes (V6 address) = ipv6_octets address

-- both are of one version of IP
abbrev pub is_same_version : IpAddr → IpAddr → Bool
is_same_version (V4 a) (V4 b) = true
is_same_version (V6 a) (V6 b) = true
is_same_version a b = false

-- the IPv4 address that is this number of 32 bits, and the IPv6 address that is this number of 128 bits
abbrev pub ipv4_address : ℕ → IpAddr
ipv4_address bits = V4 (record { octets = to_be_bytes w32 bits })

abbrev pub ipv6_address : ℕ → IpAddr
ipv6_address bits = V6 (record { segments = segments_of (to_be_bytes w128 bits) })

-- the address of either version that a text spells; no text spells both, since IPv6 has a colon (RFC 4291, 2.2)
abbrev pub ip_address_of : List ℕ → Option IpAddr
ip_address_of text = option_or (option_map ipv4_address (address_of text)) (option_map ipv6_address (address6_of text))
