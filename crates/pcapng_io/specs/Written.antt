-- Believed: how the blocks of a pcapng capture are written.
use Rattle.std.specs.Prelude.{◌≡◌, ◌≤◌, ◌<◌, ◌^◌, slice_index, ◌+◌, ◌-◌, ◌/◌, ◌%◌, ℕ, List, ◌++◌, length, take, drop, replicate, min, if◌then◌else◌, ◌==◌, Ok, Some, [], ◌∷◌}
use Rattle.capture_bytes.specs.declared.order.Endian.{Endian}
use Rattle.capture_bytes.specs.Numbers.{number_at, bytes_of}
use Rattle.capture_bytes.specs.declared.packet.PcapRecord.{PcapRecord}
use Rattle.pcapng_io.specs.declared.item.NgItem.{NgItem}
use Rattle.pcapng_io.specs.declared.item.NgItem.TheVariants.{Packet, Section, Interface, Carried}
use Rattle.pcapng_io.specs.declared.item.NgPacket.{NgPacket}
use Rattle.pcapng_io.specs.declared.place.Place.{Place}
use Rattle.pcapng_io.specs.Blocks.{Blocks, next_of}
use Rattle.pcapng_io.specs.Options.{padded, copied as copied_of}
use Rattle.pcapng_io.specs.Times.{nanoseconds_of}

-- a snaplen that grew by this; 0 means no limit and stays
abbrev pub grown : ℕ → ℕ → ℕ
grown growth snaplen = if snaplen == 0 then 0 else min (snaplen + growth) 4294967295

-- a section header, whose section length is all ones, which means unknown
abbrev pub section_bytes : List ℕ → List ℕ
section_bytes block = take 16 block ++ replicate 8 255 ++ drop 24 block

-- an interface, whose snaplen grew
abbrev pub interface_bytes : ℕ → Endian → List ℕ → List ℕ
interface_bytes growth order block = take 12 block ++ bytes_of order 4 (grown growth (number_at order 4 12 block)) ++ drop 16 block

-- the length of a packet's block
abbrev pub packet_length : NgPacket → ℕ
packet_length p = 32 + padded (length p.packet.frame) + length p.options

-- a packet of this record, with the other content of its block
abbrev pub packet_with : Endian → ℕ → ℕ → List ℕ → PcapRecord → NgPacket
packet_with order interface ticks options packet = record { order = order; interface = interface; ticks = ticks; options = options; packet = packet }

-- before the frame: type 6, the block's length, interface, ticks, captured length and original length
abbrev pub head_spelled : Endian → ℕ → ℕ → ℕ → ℕ → ℕ → List ℕ
head_spelled order length interface ticks captured wire =
    bytes_of order 4 6 ++ bytes_of order 4 length ++ bytes_of order 4 interface ++ bytes_of order 4 (ticks / 4294967296)
    ++ bytes_of order 4 (ticks % 4294967296) ++ bytes_of order 4 captured ++ bytes_of order 4 wire

unfoldable pub packet_head : NgPacket → List ℕ
packet_head p = head_spelled p.order (packet_length p) p.interface p.ticks (length p.packet.frame) p.packet.wire

-- a packet: this, the frame with zeros after it up to a multiple of four, the options, and the length again
abbrev pub packet_bytes : NgPacket → List ℕ
packet_bytes p =
    packet_head p ++ p.packet.frame ++ replicate (padded (length p.packet.frame) - length p.packet.frame) 0 ++ p.options ++ bytes_of p.order 4 (packet_length p)

-- an item as it is written, if frames may have grown by this number of bytes
abbrev pub item_bytes : ℕ → NgItem → List ℕ
item_bytes growth (Packet p) = packet_bytes p
item_bytes growth (Section block) = section_bytes block
item_bytes growth (Interface order block) = interface_bytes growth order block
item_bytes growth (Carried block) = block

-- A packet that may come after a place: of an interface of its section, at the time of its ticks, with a frame and a
-- block of accepted lengths, with no option that isn't copied, and within the packets and blocks that are counted.
pub record FitsPacket (place : Place) (p : NgPacket) : Type 0 where
  pub order : p.order ≡ place.order
  pub known : p.interface < length place.units
  pub interface : p.interface < 2 ^ 32
  pub ticks : p.ticks < 2 ^ 64
  pub seconds : p.packet.seconds ≡ nanoseconds_of (slice_index place.units p.interface) p.ticks / 1000000000
  pub fraction : p.packet.fraction ≡ nanoseconds_of (slice_index place.units p.interface) p.ticks % 1000000000
  pub wire : p.packet.wire < 2 ^ 32
  pub short : length p.packet.frame ≤ 262144
  pub options : length p.options % 4 ≡ 0
  pub copied : copied_of p.order p.options ≡ p.options
  pub size : packet_length p ≤ 16777216
  pub few : place.packets < 4294967295
  pub counted : place.blocks + 1 < 1099511627776

-- an item as it is read after it was written
abbrev pub as_written : ℕ → NgItem → NgItem
as_written growth (Packet p) = Packet p
as_written growth (Section block) = Section (section_bytes block)
as_written growth (Interface order block) = Interface order (interface_bytes growth order block)
as_written growth (Carried block) = Carried block

-- An item may come after a place, and gives another: a packet that fits, or a block that is read as the item.
abbrev pub Stands : Place → NgItem → Place → Type 0
Stands place (Packet p) now = FitsPacket place p × (now ≡ record { order = place.order; units = place.units; blocks = place.blocks + 1; packets = place.packets + 1 })
Stands place (Section block) now = next_of place block ≡ Ok (Some (Section block, now, []))
Stands place (Interface order block) now = next_of place block ≡ Ok (Some (Interface order block, now, []))
Stands place (Carried block) now = next_of place block ≡ Ok (Some (Carried block, now, []))

-- items may come one after another
abbrev pub StandInARow : Place → List NgItem → Place → Type 0
StandInARow place [] now = now ≡ place
StandInARow place (i ∷ more) now = (mid : Place) × Stands place i mid × StandInARow mid more now

-- items before others
abbrev pub with_items : List NgItem → Blocks → Blocks
with_items items rest = record { items = items ++ rest.items; fault = rest.fault }
