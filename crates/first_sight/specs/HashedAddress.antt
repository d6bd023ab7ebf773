-- For proofs: what a hasher is fed for an address and a port there: as few numbers as hold both.
use Rattle.std.specs.Prelude.{◌≡◌, ◌+◌, ◌*◌, ◌++◌, ℕ, true}
use Rattle.std.proofs.Common.{ap}
use Rattle.std.specs.Int.{w32, w128, from_be_bytes}
use Rattle.std.specs.Hash.{HashWrites}
use Rattle.std.specs.Hash as fed
use Rattle.std.specs.Cmp.Lexicographic.{bytes_decides}
use Rattle.std.specs.Net.Addr.{ipv4_octets, ipv4_bits, ipv6_segments, ipv6_bits, octets_of}
use Rattle.std.specs.declared.net.ip_addr.IpAddr.{IpAddr}
use Rattle.std.specs.declared.net.ip_addr.IpAddr.TheVariants.{V4, V6}
use Rattle.first_sight.specs.SameAddress.{is_same_address}

abbrev pub endpoint_writes : IpAddr → ℕ → HashWrites
endpoint_writes (V4 a) port = fed.u64 (ipv4_bits a * 65536 + port)
endpoint_writes (V6 a) port = fed.u128 (ipv6_bits a) ++ fed.u16 port

-- the same addresses with the same port feed the same
pub same_endpoint_fed : (a b : IpAddr) (port : ℕ) → is_same_address a b ≡ true → endpoint_writes a port ≡ endpoint_writes b port
unfolding ipv4_bits ipv6_bits
same_endpoint_fed (V4 a) (V4 b) port same =
    ap (λ octets. fed.u64 (from_be_bytes w32 octets * 65536 + port)) ((bytes_decides (ipv4_octets a) (ipv4_octets b)).0 same)
same_endpoint_fed (V4 a) (V6 b) port same = absurd cc
same_endpoint_fed (V6 a) (V4 b) port same = absurd cc
same_endpoint_fed (V6 a) (V6 b) port same =
    ap (λ segments. fed.u128 (from_be_bytes w128 (octets_of segments)) ++ fed.u16 port) ((bytes_decides (ipv6_segments a) (ipv6_segments b)).0 same)
