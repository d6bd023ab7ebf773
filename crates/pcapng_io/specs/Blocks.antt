-- Believed: the pcapng format (draft-ietf-opsawg-pcapng) as it is read here: blocks, their first faults, their items.
use Rattle.std.specs.Prelude.{◌+◌, ◌-◌, ◌*◌, ◌/◌, ◌%◌, ℕ, zero, suc, List, [], ◌∷◌, ◌++◌, length, take, drop, if◌then◌else◌, ◌==◌, ◌&&◌, ◌||◌, not, nat_lt, nat_le, Bool, true, false, is_none, slice_index, Option, Some, None, Result, Ok, Err}
use Rattle.capture_bytes.specs.declared.order.Endian.{Endian}
use Rattle.capture_bytes.specs.declared.order.Endian.TheVariants.{Big, Little}
use Rattle.capture_bytes.specs.Numbers.{number_at, bytes_of}
use Rattle.pcapng_io.specs.declared.block_kind.BlockKind.{BlockKind}
use Rattle.pcapng_io.specs.declared.block_kind.BlockKind.TheVariants.{SectionHeader, InterfaceDescription, EnhancedPacket, Unread, Other}
use Rattle.pcapng_io.specs.declared.fault.NgFault.{NgFault}
use Rattle.pcapng_io.specs.declared.fault.NgFault.TheVariants.{CutBlock, BadBlock, BlockTooLong, BadLink, BadResolution, NoInterface, FrameTooLong, TooManyRecords, TooManyBlocks}
use Rattle.pcapng_io.specs.declared.item.NgItem.{NgItem}
use Rattle.pcapng_io.specs.declared.item.NgItem.TheVariants.{Packet, Section, Interface, Carried}
use Rattle.pcapng_io.specs.declared.item.NgPacket.{NgPacket}
use Rattle.pcapng_io.specs.declared.place.Place.{Place}
use Rattle.pcapng_io.specs.Options.{BlockOption, padded, options_of, copied, resolution_of}
use Rattle.pcapng_io.specs.Times.{is_resolution, ticks_in_second, nanoseconds_of}

-- before the first block
abbrev pub start : Place
start = record { order = Big; units = []; blocks = 0; packets = 0 }

-- the kind of a block by its type, which for a section header reads the same in both orders
abbrev pub kind_of : ℕ → BlockKind
kind_of code =
    if code == 0x0a0d0d0a then SectionHeader
    else if code == 1 then InterfaceDescription
    else if code == 6 then EnhancedPacket
    else if (code == 2) || (code == 3) then Unread
    else Other

abbrev pub is_section : BlockKind → Bool
is_section SectionHeader = true
is_section InterfaceDescription = false
is_section EnhancedPacket = false
is_section Unread = false
is_section Other = false

abbrev pub is_interface : BlockKind → Bool
is_interface SectionHeader = false
is_interface InterfaceDescription = true
is_interface EnhancedPacket = false
is_interface Unread = false
is_interface Other = false

abbrev pub is_packet : BlockKind → Bool
is_packet SectionHeader = false
is_packet InterfaceDescription = false
is_packet EnhancedPacket = true
is_packet Unread = false
is_packet Other = false

abbrev pub is_unread : BlockKind → Bool
is_unread SectionHeader = false
is_unread InterfaceDescription = false
is_unread EnhancedPacket = false
is_unread Unread = true
is_unread Other = false

-- the length of the body's fixed fields
abbrev pub fixed_length : BlockKind → ℕ
fixed_length SectionHeader = 16
fixed_length InterfaceDescription = 8
fixed_length EnhancedPacket = 20
fixed_length Unread = 0
fixed_length Other = 0

-- the block at the front: its kind, number order and length; a section header's magic gives its order
abbrev pub kind_in : Endian → List ℕ → BlockKind
kind_in order bytes = kind_of (number_at order 4 0 bytes)

abbrev pub order_in : Endian → BlockKind → List ℕ → Endian
order_in order kind bytes = if is_section kind then (if number_at Big 4 8 bytes == 0x1a2b3c4d then Big else Little) else order

abbrev pub length_in : Endian → List ℕ → ℕ
length_in order bytes = number_at order 4 4 bytes

-- the bytes of the options that begin at a place, up to the length at the block's end
abbrev pub options_at : ℕ → List ℕ → List ℕ
options_at at block = take (length block - 4 - at) (drop at block)

-- an interface: its link type, its options, and its resolution
abbrev pub link_in : Endian → List ℕ → ℕ
link_in order block = number_at order 2 8 block

abbrev pub options_in : Endian → List ℕ → Option (List BlockOption)
options_in order block = options_of order (options_at 16 block)

abbrev pub resolution_in : Endian → List ℕ → ℕ
resolution_in order block = resolution_of (options_in order block)

-- a packet: its interface, its ticks, its captured length, and its original length
abbrev pub interface_in : Endian → List ℕ → ℕ
interface_in order block = number_at order 4 8 block

abbrev pub ticks_in : Endian → List ℕ → ℕ
ticks_in order block = number_at order 4 12 block * 4294967296 + number_at order 4 16 block

abbrev pub captured_in : Endian → List ℕ → ℕ
captured_in order block = number_at order 4 20 block

abbrev pub original_in : Endian → List ℕ → ℕ
original_in order block = number_at order 4 24 block

-- the lengths at both ends differ, or the fixed fields are cut
abbrev pub has_bad_lengths : Endian → BlockKind → List ℕ → Bool
has_bad_lengths order kind block = not (number_at order 4 (length block - 4) block == length_in order block) || nat_lt (length block) (12 + fixed_length kind)

-- A table of faults, each with its test: the first fault whose test passes is reported.
abbrev pub first_fault : List (Bool × NgFault) → Option NgFault
first_fault [] = None
first_fault ((stands, fault) ∷ more) = if stands then Some fault else first_fault more

-- The faults of block `n` that its length shows, if these bytes remain.
abbrev pub length_faults : ℕ → Endian → BlockKind → List ℕ → List (Bool × NgFault)
length_faults n order kind bytes =
    -- fewer bytes remain than are needed to identify the block
    (nat_lt (length bytes) 8 || (is_section kind && nat_lt (length bytes) 12), CutBlock n)
    -- a wrong magic, a length that no block has, or a block that isn't read
    ∷ ((is_section kind && not (number_at order 4 8 bytes == 0x1a2b3c4d)) || nat_lt (length_in order bytes) 12 || not (length_in order bytes % 4 == 0) || is_unread kind, BadBlock n)
    ∷ (nat_lt 16777216 (length_in order bytes), BlockTooLong n (length_in order bytes))
    ∷ (nat_lt (length bytes) (length_in order bytes), CutBlock n)
    ∷ []

-- A fault says whether its block is the first of its capture: that one is a section header, of which no fault comes
-- without a block.
abbrev pub is_of_first_block : NgFault → Bool
is_of_first_block (CutBlock n) = n == 1
is_of_first_block (BadBlock n) = n == 1
is_of_first_block (BlockTooLong n size) = n == 1
is_of_first_block (BadLink link) = false
is_of_first_block (BadResolution n) = n == 1
is_of_first_block (NoInterface n) = n == 1
is_of_first_block (FrameTooLong number size) = false
is_of_first_block TooManyRecords = false
is_of_first_block TooManyBlocks = false

-- The faults of the block's own bytes, after these.
abbrev pub content_faults : Place → Endian → BlockKind → List ℕ → List (Bool × NgFault)
content_faults place order kind block =
    -- the lengths differ, the fixed fields are cut, the version isn't 1, or an interface's option runs past the body
    (has_bad_lengths order kind block || (is_section kind && not (number_at order 2 12 block == 1)) || (is_interface kind && is_none (options_in order block)), BadBlock (place.blocks + 1))
    ∷ (is_interface kind && not (link_in order block == 1), BadLink (link_in order block))
    ∷ (is_interface kind && not (is_resolution (resolution_in order block)), BadResolution (place.blocks + 1))
    ∷ (is_packet kind && nat_le (length place.units) (interface_in order block), NoInterface (place.blocks + 1))
    ∷ (is_packet kind && (place.packets == 4294967295), TooManyRecords)
    ∷ (is_packet kind && nat_lt 262144 (captured_in order block), FrameTooLong (place.packets + 1) (captured_in order block))
    -- the padded data runs past the body
    ∷ (is_packet kind && nat_lt (length block) (32 + padded (captured_in order block)), BadBlock (place.blocks + 1))
    ∷ (place.blocks + 1 == 1099511627776, TooManyBlocks)
    ∷ []

-- a block with these options in place of its own, which begin at a place, and with the length that follows from them
abbrev pub with_options : Endian → ℕ → List ℕ → List ℕ → List ℕ
with_options order at options block =
    take 4 block ++ bytes_of order 4 (at + length options + 4) ++ take (at - 8) (drop 8 block) ++ options ++ bytes_of order 4 (at + length options + 4)

-- the block without the options that aren't copied, if it has such
abbrev pub copied_block : Endian → ℕ → List ℕ → List ℕ
copied_block order at block = if length (copied order (options_at at block)) == length (options_at at block) then block else with_options order at (copied order (options_at at block)) block

-- a block of another type as it is passed on: nothing of a custom block that a changed capture must not have ("Custom Block")
abbrev pub carried : Endian → List ℕ → List ℕ
carried order block = if number_at order 4 0 block == 0x40000bad then [] else block

-- the packet in a block, for an interface with this number of ticks in a second
abbrev pub packet_of : Endian → ℕ → List ℕ → NgPacket
packet_of order in_second block = record {
  order = order;
  interface = interface_in order block;
  ticks = ticks_in order block;
  options = copied order (options_at (28 + padded (captured_in order block)) block);
  packet = record {
    seconds = nanoseconds_of in_second (ticks_in order block) / 1000000000;
    fraction = nanoseconds_of in_second (ticks_in order block) % 1000000000;
    wire = original_in order block;
    frame = take (captured_in order block) (drop 28 block);
  };
}

-- what a block without a fault gives
abbrev pub item_of : Place → Endian → BlockKind → List ℕ → NgItem
item_of place order SectionHeader block = Section (copied_block order 24 block)
item_of place order InterfaceDescription block = Interface order (copied_block order 16 block)
item_of place order EnhancedPacket block = Packet (packet_of order (slice_index place.units (interface_in order block)) block)
item_of place order Unread block = Carried (carried order block)
item_of place order Other block = Carried (carried order block)

-- and the place before the next one
abbrev pub after : Place → Endian → BlockKind → List ℕ → Place
after place order SectionHeader block = record { order = order; units = []; blocks = place.blocks + 1; packets = place.packets }
after place order InterfaceDescription block = record { order = place.order; units = place.units ++ ticks_in_second (resolution_in order block) ∷ []; blocks = place.blocks + 1; packets = place.packets }
after place order EnhancedPacket block = record { order = place.order; units = place.units; blocks = place.blocks + 1; packets = place.packets + 1 }
after place order Unread block = record { order = place.order; units = place.units; blocks = place.blocks + 1; packets = place.packets }
after place order Other block = record { order = place.order; units = place.units; blocks = place.blocks + 1; packets = place.packets }

-- a block of which all bytes are present
abbrev pub unless_fault : {X : Type 0} → X → Option NgFault → Result X NgFault
unless_fault x None = Ok x
unless_fault x (Some fault) = Err fault

abbrev pub block_of : Place → Endian → BlockKind → List ℕ → Result (NgItem × Place) NgFault
block_of place order kind block = unless_fault (item_of place order kind block, after place order kind block) (first_fault (content_faults place order kind block))

abbrev pub and_left : List ℕ → Result (NgItem × Place) NgFault → Result (Option (NgItem × Place × List ℕ)) NgFault
and_left rest (Ok (item, place)) = Ok (Some (item, place, rest))
and_left rest (Err fault) = Err fault

-- a block whose length is accepted, with the bytes that follow it
abbrev pub whole_block : Place → Endian → BlockKind → ℕ → List ℕ → Option NgFault → Result (Option (NgItem × Place × List ℕ)) NgFault
whole_block place order kind size bytes None = and_left (drop size bytes) (block_of place order kind (take size bytes))
whole_block place order kind size bytes (Some fault) = Err fault

abbrev pub framed : Place → Endian → BlockKind → List ℕ → Result (Option (NgItem × Place × List ℕ)) NgFault
framed place order kind bytes = whole_block place order kind (length_in order bytes) bytes (first_fault (length_faults (place.blocks + 1) order kind bytes))

-- What comes next: the end, a block with the bytes after it, or a fault.
abbrev pub next_of : Place → List ℕ → Result (Option (NgItem × Place × List ℕ)) NgFault
next_of place bytes =
    if length bytes == 0 then Ok None
    else framed place (order_in place.order (kind_in place.order bytes) bytes) (kind_in place.order bytes) bytes

-- what the blocks of a capture give, and the fault that ends them, if one does
pub record Blocks : Type 0 where
  pub items : List NgItem
  pub fault : Option NgFault

-- an item before others
abbrev pub with_item : NgItem → Blocks → Blocks
with_item item rest = record { items = item ∷ rest.items; fault = rest.fault }

-- what comes next, and what follows it
abbrev pub and_rest : (Place → List ℕ → Blocks) → Result (Option (NgItem × Place × List ℕ)) NgFault → Blocks
and_rest rest (Ok None) = record { items = []; fault = None }
and_rest rest (Ok (Some (item, place, bytes))) = with_item item (rest place bytes)
and_rest rest (Err fault) = record { items = []; fault = Some fault }

-- the same up to `n` blocks; a block takes bytes, so a number of bytes is enough
abbrev pub blocks_within : ℕ → Place → List ℕ → Blocks
blocks_within zero place bytes = record { items = []; fault = None }
blocks_within (suc n) place bytes = and_rest (blocks_within n) (next_of place bytes)

-- all the blocks after a place, and the fault that ends them
unfoldable pub blocks_of : Place → List ℕ → Blocks
blocks_of place bytes = blocks_within (length bytes + 1) place bytes
