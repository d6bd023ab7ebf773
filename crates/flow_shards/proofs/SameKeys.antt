-- Packets of one flow have one key, so one shard.
use Rattle.std.proofs.Common.{◌≡◌, ℕ, true, refl, ap}
use Rattle.std.specs.Prelude.{◌==◌, ◌&&◌, ◌||◌, Option, Some, None}
use Rattle.std.specs.Cmp.{first_so, second_so}
use Rattle.std.specs.Cmp.Lexicographic.{bytes_decides}
use Rattle.std.specs.Int.{w32, w128, from_be_bytes}
use Rattle.std.specs.Net.Addr.{ipv4_octets, ipv4_bits, ipv6_segments, ipv6_bits, octets_of}
use Rattle.std.specs.Option.{option_eq}
use Rattle.std.proofs.lemmas.Bool.{eqb-true}
use Rattle.std.specs.declared.net.ip_addr.IpAddr.{IpAddr}
use Rattle.std.specs.declared.net.ip_addr.IpAddr.TheVariants.{V4, V6}
use Rattle.first_sight.specs.SameAddress.{is_same_address}
use Rattle.packet_function.specs.SameFlow.{is_same_flow, is_same_endpoint}
use Rattle.packet_function.specs.declared.flow.Endpoint.{Endpoint}
use Rattle.packet_function.specs.declared.flow.FiveTuple.{FiveTuple}
use Rattle.flow_shards.specs.Flows.{address_number, is_wide, key_of}
use Rattle.flow_shards.specs.Sharding.{shard_of}

same_number : (a b : IpAddr) → is_same_address a b ≡ true → address_number a ≡ address_number b
unfolding ipv4_bits ipv6_bits
same_number (V4 a) (V4 b) same = ap (from_be_bytes w32) ((bytes_decides (ipv4_octets a) (ipv4_octets b)).0 same)
same_number (V4 a) (V6 b) same = absurd cc
same_number (V6 a) (V4 b) same = absurd cc
same_number (V6 a) (V6 b) same = ap (λ segments. from_be_bytes w128 (octets_of segments)) ((bytes_decides (ipv6_segments a) (ipv6_segments b)).0 same)

same_port : (a b : Option ℕ) → option_eq ◌==◌ a b ≡ true → a ≡ b
same_port (Some a) (Some b) same = ap Some (eqb-true a b same)
same_port (Some a) None same = absurd cc
same_port None (Some b) same = absurd cc
same_port None None same = refl

same_width : (a b : IpAddr) → is_same_address a b ≡ true → is_wide a ≡ is_wide b
same_width (V4 a) (V4 b) same = refl
same_width (V4 a) (V6 b) same = absurd cc
same_width (V6 a) (V4 b) same = absurd cc
same_width (V6 a) (V6 b) same = refl

-- an address with its port, as a key has them
record SameEnd (a b : Endpoint) : Type 0 where
  number : address_number a.address ≡ address_number b.address
  width : is_wide a.address ≡ is_wide b.address
  port : a.port ≡ b.port

same_end : (a b : Endpoint) → is_same_endpoint a b ≡ true → SameEnd a b
same_end a b same =
    let address = first_so (is_same_address a.address b.address) (option_eq ◌==◌ a.port b.port) same in
    record {
      number = same_number a.address b.address address;
      width = same_width a.address b.address address;
      port = same_port a.port b.port (second_so (is_same_address a.address b.address) (option_eq ◌==◌ a.port b.port) same);
    }

pub same_key : (a b : FiveTuple) → is_same_flow a b ≡ true → key_of a ≡ key_of b
same_key a b same = λ i. record {
  wide = source.width i || destination.width i;
  proto = proto i;
  src = source.number i;
  sport = source.port i;
  dst = destination.number i;
  dport = destination.port i;
}
  where
    front : (a.proto == b.proto && is_same_endpoint a.source b.source) ≡ true
    front = first_so (a.proto == b.proto && is_same_endpoint a.source b.source) (is_same_endpoint a.destination b.destination) same

    proto : a.proto ≡ b.proto
    proto = eqb-true a.proto b.proto (first_so (a.proto == b.proto) (is_same_endpoint a.source b.source) front)

    source : SameEnd a.source b.source
    source = same_end a.source b.source (second_so (a.proto == b.proto) (is_same_endpoint a.source b.source) front)

    destination : SameEnd a.destination b.destination
    destination = same_end a.destination b.destination (second_so (a.proto == b.proto && is_same_endpoint a.source b.source) (is_same_endpoint a.destination b.destination) same)

pub same_shard : (workers : ℕ) (a b : FiveTuple) → is_same_flow a b ≡ true → shard_of workers (key_of a) ≡ shard_of workers (key_of b)
same_shard workers a b same = ap (shard_of workers) (same_key a b same)
