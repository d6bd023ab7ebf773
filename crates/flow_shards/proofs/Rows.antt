-- Worked rows: three packets of two flows, counted by hand, and the workers that have them.
use Rattle.std.proofs.Common.{◌≡◌, ℕ, List, [], ◌∷◌, refl}
use Rattle.std.specs.Prelude.{Some, None, false}
use Rattle.std.specs.Net.Addr.{ipv4_bits}
use Rattle.packet_fields.specs.Frames.{tags_len}
use Rattle.packet_fields.specs.Packets.{is_ipv4, is_ipv6, has_transport}
use Rattle.capture_bytes.specs.declared.packet.Unit.TheVariants.{Micro}
use Rattle.classifier.specs.declared.burst.Item.{Item}
use Rattle.flow_line.specs.declared.key.FlowKey.{FlowKey}
use Rattle.flow_shards.specs.Flows.{flows}
use Rattle.flow_shards.specs.Sharding.{shard_of}

-- UDP from 10.0.0.HOST, port 1000, to 10.0.0.2, port 53, without data
abbrev udp_from : ℕ → List ℕ
udp_from host =
    2 ∷ 0 ∷ 0 ∷ 0 ∷ 0 ∷ 2 ∷ 2 ∷ 0 ∷ 0 ∷ 0 ∷ 0 ∷ 1 ∷ 8 ∷ 0 ∷ 0x45 ∷ 0 ∷ 0 ∷ 28 ∷ 0 ∷ 0 ∷ 0 ∷ 0 ∷ 64 ∷ 17 ∷ 0x66 ∷ 0xcf ∷ 10 ∷ 0 ∷ 0 ∷ host
    ∷ 10 ∷ 0 ∷ 0 ∷ 2 ∷ 3 ∷ 0xe8 ∷ 0 ∷ 53 ∷ 0 ∷ 8 ∷ 0 ∷ 0 ∷ []

-- TCP with the same addresses and ports, with SYN and ACK
abbrev tcp : List ℕ
tcp =
    2 ∷ 0 ∷ 0 ∷ 0 ∷ 0 ∷ 2 ∷ 2 ∷ 0 ∷ 0 ∷ 0 ∷ 0 ∷ 1 ∷ 8 ∷ 0 ∷ 0x45 ∷ 0 ∷ 0 ∷ 40 ∷ 0 ∷ 0 ∷ 0 ∷ 0 ∷ 64 ∷ 6 ∷ 0 ∷ 0 ∷ 10 ∷ 0 ∷ 0 ∷ 1
    ∷ 10 ∷ 0 ∷ 0 ∷ 2 ∷ 3 ∷ 0xe8 ∷ 0 ∷ 53 ∷ 0 ∷ 0 ∷ 0 ∷ 0 ∷ 0 ∷ 0 ∷ 0 ∷ 0 ∷ 0x50 ∷ 0x12 ∷ 0 ∷ 0 ∷ 0 ∷ 0 ∷ 0 ∷ 0 ∷ []

abbrev item : ℕ → ℕ → List ℕ → Item
item number seconds frame = record { number = number; class = None; packet = record { seconds = seconds; fraction = 0; wire = 60; frame = frame } }

abbrev key : ℕ → ℕ → FlowKey
key proto src = record { wide = false; proto = proto; src = src; sport = Some 1000; dst = 0x0a000002; dport = Some 53 }

-- a flow that comes again keeps its place, a frame without a packet belongs to none, and protocols are distinct
counts : flows Micro (item 1 0 (udp_from 1) ∷ item 2 1 (udp_from 9) ∷ item 3 1 [] ∷ item 4 2 (udp_from 1) ∷ item 5 3 tcp ∷ []) ≡
    record { key = key 17 0x0a000001; packets = 2; bytes = 56; first = 1; begun = 0; last = 2000000000; flags = 0 }
    ∷ record { key = key 17 0x0a000009; packets = 1; bytes = 28; first = 2; begun = 1000000000; last = 1000000000; flags = 0 }
    ∷ record { key = key 6 0x0a000001; packets = 1; bytes = 40; first = 5; begun = 3000000000; last = 3000000000; flags = 0x12 } ∷ []
unfolding tags_len is_ipv4 is_ipv6 has_transport ipv4_bits
counts = refl

-- the times of a flow are the least and the greatest of its packets, in whatever order these come
spans : flows Micro (item 1 5 (udp_from 1) ∷ item 2 7 (udp_from 1) ∷ item 3 3 (udp_from 1) ∷ item 4 6 (udp_from 1) ∷ []) ≡
    record { key = key 17 0x0a000001; packets = 4; bytes = 112; first = 1; begun = 3000000000; last = 7000000000; flags = 0 } ∷ []
unfolding tags_len is_ipv4 is_ipv6 has_transport ipv4_bits
spans = refl

-- 1 + 2 + 1000 + 53 + 17 is 1073
places : shard_of 1 (key 17 0x0a000001) ∷ shard_of 2 (key 17 0x0a000001) ∷ shard_of 16 (key 17 0x0a000001) ∷ shard_of 16 (key 17 0x0a000009) ∷ [] ≡ 0 ∷ 1 ∷ 1 ∷ 9 ∷ []
places = refl
