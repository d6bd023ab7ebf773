-- For proofs: what a reader of pcapng captures does: its place, and what it takes off the bytes that remain in Capture.
use Rattle.std.specs.Prelude.{◌≡◌, ◌≤◌, ◌<◌, ◌+◌, ◌%◌, ◌^◌, ℕ, List, [], length, take, drop, All, Bool, true, false, if◌then◌else◌, Option, Some, None, IfSome, Result, Ok, Err, IsErrOf}
use Rattle.std.specs.Option.{option_map}
use Rattle.nfp_outside.specs.declared.slot.Slot.{Slot}
use Rattle.nfp_outside.specs.declared.slot.Slot.TheVariants.{Capture as CaptureSlot}
use Rattle.nfp_outside.specs.Outside.{SlotView, IsRisen}
use Rattle.capture_bytes.specs.declared.order.Endian.{Endian}
use Rattle.capture_bytes.specs.Filling.{Fills}
use Rattle.pcapng_io.specs.declared.block_kind.BlockKind.{BlockKind}
use Rattle.pcapng_io.specs.declared.block_kind.BlockKind.TheVariants.{SectionHeader, InterfaceDescription, EnhancedPacket, Unread, Other}
use Rattle.pcapng_io.specs.declared.fault.NgFault.{NgFault}
use Rattle.pcapng_io.specs.declared.fault.NgReadFault.{NgReadFault}
use Rattle.pcapng_io.specs.declared.fault.NgReadFault.TheVariants.{ReadFault}
use Rattle.pcapng_io.specs.declared.item.NgItem.{NgItem}
use Rattle.pcapng_io.specs.declared.item.NgItem.TheVariants.{Packet, Section, Interface, Carried}
use Rattle.pcapng_io.specs.declared.place.Place.{Place}
use Rattle.pcapng_io.specs.Blocks.{Blocks, next_of, blocks_of, with_item, first_fault, length_faults, content_faults, item_of, after, is_section, kind_in, order_in, length_in}
use Rattle.pcapng_io.specs.Written.{packet_length}

-- a reader: its place, and whether it was refused
pub record ReaderState : Type 0 where
  pub place : Place
  pub spent : Bool

abbrev pub reader_at : Place → ReaderState
reader_at place = record { place = place; spent = false }

-- the same reader after it was refused
abbrev pub refused : ReaderState → ReaderState
refused reader = record { place = reader.place; spent = true }

-- what comes next in the bytes that remain, if the desk shows them
abbrev pub next_left : Place → SlotView → Option (Result (Option (NgItem × Place × List ℕ)) NgFault)
next_left place slot = option_map (next_of place) slot.bytes

-- what is still to come, if the desk shows the bytes that remain
abbrev pub blocks_left : Place → SlotView → Option Blocks
blocks_left place slot = option_map (blocks_of place) slot.bytes

-- an item that fits a block, which is all that writing it requires
abbrev pub IsWritable : NgItem → Type 0
IsWritable (Packet p) = (length p.options % 4 ≡ 0) × (packet_length p < 2 ^ 32)
IsWritable (Section block) = 28 ≤ length block
IsWritable (Interface order block) = 20 ≤ length block
IsWritable (Carried block) = Unit {0}

-- a packet whose frame and whose block have accepted lengths
abbrev pub IsShortItem : NgItem → Type 0
IsShortItem (Packet p) = (length p.packet.frame ≤ 262144) × (packet_length p ≤ 16777216)
IsShortItem (Section block) = Unit {0}
IsShortItem (Interface order block) = Unit {0}
IsShortItem (Carried block) = Unit {0}

-- the packets are counted, no more than fit in 32 bits
abbrev pub CountsPacket : NgItem → ℕ → ℕ → Type 0
CountsPacket (Packet p) before now = (before < 4294967295) × (now ≡ before + 1)
CountsPacket (Section block) before now = now ≡ before
CountsPacket (Interface order block) before now = now ≡ before
CountsPacket (Carried block) before now = now ≡ before

-- a block was read, and what follows it remains
pub record ReadsItem (item : NgItem) (before after : Place) (old new : SlotView) : Type 0 where
  pub next : next_left before old ≡ option_map (λ rest. Ok (Some (item, after, rest))) new.bytes
  pub whole : blocks_left before old ≡ option_map (with_item item) (blocks_left after new)
  pub writable : IsWritable item
  pub short : IsShortItem item
  pub counted : CountsPacket item before.packets after.packets
  pub blocks : after.blocks ≡ before.blocks + 1
  pub few : after.blocks < 1099511627776

-- nothing remains
pub record IsAtEnd (before : Place) (old new : SlotView) : Type 0 where
  pub left : new.bytes ≡ old.bytes
  pub empty : IfSome old.bytes (λ bytes. bytes ≡ [])
  pub whole : IfSome (blocks_left before old) (λ blocks. blocks ≡ record { items = []; fault = None })

-- the bytes that remain are refused with this fault
pub record RefusesBlock (fault : NgFault) (before : Place) (old : SlotView) : Type 0 where
  pub next : IfSome (next_left before old) (λ next. next ≡ Err fault)
  pub whole : IfSome (blocks_left before old) (λ blocks. blocks ≡ record { items = []; fault = Some fault })

-- a reader returns a read fault of the slot Capture alone, and only if its count rose
pub record ReaderCause {T : Type 0} (old new : SlotView) (result : Result T NgReadFault) : Type 0 where
  pub later : old.faults ≤ new.faults
  pub read_fault : (slot : Slot) → IsErrOf result (ReadFault slot) → (slot ≡ CaptureSlot) × IsRisen old.faults new.faults

-- the faults that a block's first bytes show
abbrev pub head_faults : ℕ → Endian → BlockKind → List ℕ → List (Bool × NgFault)
head_faults n order kind head = take 2 (drop 1 (length_faults n order kind head))

-- the number of its bytes that give the kind of a block and its length
abbrev pub head_length : BlockKind → ℕ
head_length kind = if is_section kind then 12 else 8

-- A block's first bytes say this, and show no fault.
pub record Says (place : Place) (kind : BlockKind) (order : Endian) (size : ℕ) (head : List ℕ) : Type 0 where
  pub enough : length head ≡ head_length kind
  pub kind_is : kind ≡ kind_in place.order head
  pub order_is : order ≡ order_in place.order kind head
  pub size_is : size ≡ length_in order head
  pub sound : first_fault (head_faults (place.blocks + 1) order kind head) ≡ None
  pub least : 12 ≤ size
  pub most : size ≤ 16777216
  pub multiple : size % 4 ≡ 0

-- They were read.
pub record Opens (place : Place) (kind : BlockKind) (order : Endian) (size : ℕ) (head : List ℕ) (old new : SlotView) : Type 0 where
  pub says : Says place kind order size head
  pub fills : Fills (length head) head old new

-- The whole block was read.
pub record Closes (size : ℕ) (block : List ℕ) (old new : SlotView) : Type 0 where
  pub there : length block ≡ size
  pub fills : Fills size block old new

-- a block of which nothing is read but its lengths
abbrev pub IsCarried : BlockKind → Type 0
IsCarried SectionHeader = ⊥
IsCarried InterfaceDescription = ⊥
IsCarried EnhancedPacket = ⊥
IsCarried Unread = Unit {0}
IsCarried Other = Unit {0}

-- each interface has ticks in a second
abbrev pub ArePositive : List ℕ → Type 0
ArePositive units = All (λ u. 0 < u) units

-- a block without a fault, after a place that a reader can have
pub record IsSound (place : Place) (order : Endian) (kind : BlockKind) (block : List ℕ) : Type 0 where
  pub least : 12 ≤ length block
  pub most : length block ≤ 16777216
  pub whole : length block % 4 ≡ 0
  pub few : place.blocks < 1099511627776
  pub units : ArePositive place.units
  pub faultless : first_fault (content_faults place order kind block) ≡ None

-- A block without a fault gave its item, and the place moved past it.
pub record Gives (place : Place) (order : Endian) (kind : BlockKind) (block : List ℕ) (item : NgItem) (now : Place) : Type 0 where
  pub within : place.packets ≤ 4294967295
  pub sound : IsSound place order kind block
  pub item_is : item ≡ item_of place order kind block
  pub place_is : now ≡ after place order kind block
