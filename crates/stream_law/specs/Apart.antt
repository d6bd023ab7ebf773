-- For proofs: the packets of a burst, split into parts.
use Rattle.std.specs.Prelude.{ℕ, List, map}
use Rattle.chain_walk.specs.Packets.{Packet}
use Rattle.packet_version.specs.Splitting.{taken_apart}
use Rattle.merge_ops.specs.declared.merging.Merged.{Merged}
use Rattle.merge_ops.specs.declared.merging.Merged.TheVariants.{Whole}

-- a packet in parts, with room for this number of further tags
abbrev pub apart_of : ℕ → Packet → Merged
apart_of taggers p = Whole (taken_apart taggers p.time p.frame)

abbrev pub all_apart : ℕ → List Packet → List Merged
all_apart taggers packets = map (apart_of taggers) packets
