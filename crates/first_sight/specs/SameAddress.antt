-- Believed: when two addresses are the same.
use Rattle.std.specs.Prelude.{Bool, false, nat_eq}
use Rattle.std.specs.Cmp.Lexicographic.{pointwise}
use Rattle.std.specs.Net.Addr.{ipv4_octets, ipv6_segments}
use Rattle.std.specs.declared.net.ip_addr.IpAddr.{IpAddr}
use Rattle.std.specs.declared.net.ip_addr.IpAddr.TheVariants.{V4, V6}

-- both are of one version of IP, and their bytes are the same
abbrev pub is_same_address : IpAddr → IpAddr → Bool
is_same_address (V4 a) (V4 b) = pointwise nat_eq (ipv4_octets a) (ipv4_octets b)
is_same_address (V6 a) (V6 b) = pointwise nat_eq (ipv6_segments a) (ipv6_segments b)
is_same_address a b = false
