-- For proofs: the packets of a burst that a chain takes.
use Rattle.std.specs.Prelude.{ℕ, List, map, filter, Bool, false, ◌==◌}
use Rattle.std.specs.Option.{option_map_or}
use Rattle.capture_bytes.specs.Packets.{time_of}
use Rattle.capture_bytes.specs.declared.packet.Unit.{Unit as TimeUnit}
use Rattle.chain_walk.specs.Packets.{Packet}
use Rattle.classifier.specs.declared.burst.Item.{Item}

-- an item of the chain with this number
abbrev pub is_of : ℕ → Item → Bool
is_of chain item = option_map_or (λ class. class == chain) item.class false

-- a packet's frame, and the time of its capture, in nanoseconds
abbrev pub packet_of : TimeUnit → Item → Packet
packet_of unit item = record { time = time_of unit item.packet; frame = item.packet.frame }

-- the packets of a chain, in their order
abbrev pub packets_taken : TimeUnit → ℕ → List Item → List Packet
packets_taken unit chain items = map (packet_of unit) (filter (is_of chain) items)
