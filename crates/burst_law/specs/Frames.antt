-- For proofs: the packets of a capture as a burst.
use Rattle.std.specs.Prelude.{ℕ, List, map, zip}
use Rattle.packet_fields.specs.Writing.{fields_of, written}
use Rattle.chain_walk.specs.Packets.{Packet}
use Rattle.chain_walk.specs.Shown.{fixed_of}
use Rattle.chain_walk.specs.declared.walk.Fate.{Fate}
use Rattle.chain_walk.specs.declared.walk.Fate.TheVariants as fates
use Rattle.burst_law.specs.Bursts.{Message, Message.Here, Message.Lost}

-- a packet that no function has seen
abbrev pub message_of : Packet → Message
message_of p = Here (fixed_of p.time p.frame) (fields_of p.frame)

-- the fate of a packet that had this frame and ended so
abbrev pub fate_of : List ℕ → Message → Fate
fate_of frame (Here fixed values) = fates.Out (written values frame)
fate_of frame (Lost p) = fates.Gone p

-- the fates of packets that ended so
abbrev pub fates_of : List Packet → List Message → List Fate
fates_of packets ms = map (λ x. fate_of x.0.frame x.1) (zip packets ms)
