-- For proofs: what a capture of each format gives, and how it is written.
use Rattle.std.specs.Prelude.{◌≡◌, ◌≤◌, ◌%◌, ℕ, List, [], ◌∷◌, map, length, Bool, false, not, if◌then◌else◌, is_some, Option, Some, None}
use Rattle.std.specs.Option.{option_map}
use Rattle.nfp_outside.specs.Outside.{SlotView}
use Rattle.capture_bytes.specs.declared.order.Endian.{Endian}
use Rattle.capture_bytes.specs.declared.packet.PcapRecord.{PcapRecord}
use Rattle.pcap_io.specs.Capture.{Body}
use Rattle.pcap_io.specs.Reader.{ReaderState, body_left}
use Rattle.pcap_io.specs.Written.{record_bytes}
use Rattle.pcapng_io.specs.Blocks.{Blocks}
use Rattle.pcapng_io.specs.Reader as ng
use Rattle.pcapng_io.specs.Written.{item_bytes, packet_bytes, packet_with}
use Rattle.pcapng_io.specs.declared.item.NgItem.{NgItem}
use Rattle.pcapng_io.specs.declared.item.NgItem.TheVariants as items
use Rattle.pcapng_io.specs.declared.item.NgPacket.{NgPacket}
use Rattle.capture_items.specs.declared.fault.FormatFault.TheVariants.{Pcap, Ng}
use Rattle.capture_items.specs.Streams.{Stream, with_given}
use Rattle.capture_items.specs.declared.given.Given.{Given}
use Rattle.capture_items.specs.declared.given.Given.TheVariants.{Packet, Block}
use Rattle.capture_items.specs.declared.pcap.NoBlock.{NoBlock}

-- a classic capture gives records, and nothing beside them
abbrev pub pcap_given : PcapRecord → Given (Unit {0}) NoBlock
pcap_given r = Packet r tt

abbrev pub pcap_stream : Body → Stream (Unit {0}) NoBlock
pcap_stream body = record { given = map pcap_given body.records; fault = option_map Pcap body.fault }

abbrev pub pcap_left : ReaderState → SlotView → Option (Stream (Unit {0}) NoBlock)
pcap_left reader slot = option_map pcap_stream (body_left reader slot)

abbrev pub pcap_spelled : Endian → Given (Unit {0}) NoBlock → List ℕ
pcap_spelled order (Packet r x) = record_bytes order r
pcap_spelled order (Block b) = []

-- what a packet's block holds beside its record
pub record PacketBeside : Type 0 where
  pub order : Endian
  pub interface : ℕ
  pub ticks : ℕ
  pub options : List ℕ

abbrev pub beside_of : NgPacket → PacketBeside
beside_of p = record { order = p.order; interface = p.interface; ticks = p.ticks; options = p.options }

-- a pcapng capture gives packets and other blocks
abbrev pub ng_given : NgItem → Given PacketBeside NgItem
ng_given (items.Packet p) = Packet p.packet (beside_of p)
ng_given (items.Section block) = Block (items.Section block)
ng_given (items.Interface order block) = Block (items.Interface order block)
ng_given (items.Carried block) = Block (items.Carried block)

abbrev pub ng_stream : Blocks → Stream PacketBeside NgItem
ng_stream blocks = record { given = map ng_given blocks.items; fault = option_map Ng blocks.fault }

-- what a reader has still to give
abbrev pub ng_behind : ng.ReaderState → SlotView → Option (Stream PacketBeside NgItem)
ng_behind reader slot = option_map ng_stream (ng.blocks_left reader.place slot)

-- a source of blocks: the first, until it was given, and the reader after it
pub record SourceState : Type 0 where
  pub first : Option NgItem
  pub reader : ng.ReaderState

-- This is the first block that the reader read.
pub record IsFirst (item : NgItem) (reader : ng.ReaderState) : Type 0 where
  pub writable : ng.IsWritable item
  pub short : ng.IsShortItem item
  pub counted : ng.CountsPacket item 0 reader.place.packets
  pub one : reader.place.blocks ≡ 1
  pub unspent : reader.spent ≡ false

-- the first block before the rest
abbrev pub with_first : Option NgItem → Stream PacketBeside NgItem → Stream PacketBeside NgItem
with_first None rest = rest
with_first (Some item) rest = with_given (ng_given item) rest

abbrev pub ng_left : SourceState → SlotView → Option (Stream PacketBeside NgItem)
ng_left s slot = option_map (with_first s.first) (ng_behind s.reader slot)

-- the number of packets and blocks that it gave
abbrev pub ng_packets : SourceState → ℕ
ng_packets s = if is_some s.first then 0 else s.reader.place.packets

abbrev pub ng_taken : SourceState → ℕ
ng_taken s = if is_some s.first then 0 else s.reader.place.blocks

abbrev pub is_asked : SourceState → Bool
is_asked s = not s.reader.spent

-- the packet again, with this record
abbrev pub packet_again : PacketBeside → PcapRecord → NgPacket
packet_again x r = packet_with x.order x.interface x.ticks x.options r

abbrev pub ng_spelled : ℕ → Given PacketBeside NgItem → List ℕ
ng_spelled growth (Packet r x) = packet_bytes (packet_again x r)
ng_spelled growth (Block item) = item_bytes growth item

-- the options of a packet are padded, and short
abbrev pub AreOptions : List ℕ → Type 0
AreOptions options = (length options % 4 ≡ 0) × (length options ≤ 16777216)
