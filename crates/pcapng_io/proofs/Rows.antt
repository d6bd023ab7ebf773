-- Captures byte by byte, with what the definitions give for them.
use Rattle.std.proofs.Common.{◌≡◌, ◌++◌, ◌-◌, ℕ, List, [], ◌∷◌, take, drop, refl}
use Rattle.std.specs.Prelude.{Some, None, Ok, Err}
use Rattle.std.specs.List.{flat_map}
use Rattle.capture_bytes.specs.declared.order.Endian.TheVariants.{Big, Little}
use Rattle.pcapng_io.specs.declared.fault.NgFault.TheVariants.{CutBlock, BadBlock, BlockTooLong, BadLink, BadResolution, NoInterface, TooManyRecords, TooManyBlocks}
use Rattle.pcapng_io.specs.declared.item.NgItem.TheVariants.{Packet, Section, Interface, Carried}
use Rattle.pcapng_io.specs.declared.item.NgItem.{NgItem}
use Rattle.pcapng_io.specs.Options.{options_of, copied, resolution_of}
use Rattle.pcapng_io.specs.Times.{nanoseconds_of, ticks_in_second}
use Rattle.pcapng_io.specs.declared.place.Place.{Place}
use Rattle.pcapng_io.specs.Blocks.{start, next_of, blocks_of}
use Rattle.pcapng_io.specs.Written.{packet_head, item_bytes}

-- little-endian: a section header of 28 bytes with a section length of all ones, an interface of 20 bytes, this snaplen
abbrev section : List ℕ
section = 0x0a ∷ 0x0d ∷ 0x0d ∷ 0x0a ∷ 28 ∷ 0 ∷ 0 ∷ 0 ∷ 0x4d ∷ 0x3c ∷ 0x2b ∷ 0x1a ∷ 1 ∷ 0 ∷ 0 ∷ 0 ∷ 255 ∷ 255 ∷ 255 ∷ 255 ∷ 255 ∷ 255 ∷ 255 ∷ 255 ∷ 28 ∷ 0 ∷ 0 ∷ 0 ∷ []

abbrev interface : ℕ → ℕ → ℕ → List ℕ
interface link low high = 1 ∷ 0 ∷ 0 ∷ 0 ∷ 20 ∷ 0 ∷ 0 ∷ 0 ∷ link ∷ 0 ∷ 0 ∷ 0 ∷ low ∷ high ∷ 0 ∷ 0 ∷ 20 ∷ 0 ∷ 0 ∷ 0 ∷ []

-- a UDP packet from 10.0.0.1, port 1000, to 10.0.0.2, port 53, and the same with a tag of VLAN 7
abbrev frame : List ℕ
frame =
    (2 ∷ 0 ∷ 0 ∷ 0 ∷ 0 ∷ 2 ∷ 2 ∷ 0 ∷ 0 ∷ 0 ∷ 0 ∷ 1 ∷ [])
    ++ (8 ∷ 0 ∷ 0x45 ∷ 0 ∷ 0 ∷ 28 ∷ 0 ∷ 0 ∷ 0 ∷ 0 ∷ 64 ∷ 17 ∷ 0x66 ∷ 0xcf ∷ 10 ∷ 0 ∷ 0 ∷ 1 ∷ 10 ∷ 0 ∷ 0 ∷ 2 ∷ 3 ∷ 0xe8 ∷ 0 ∷ 53 ∷ 0 ∷ 8 ∷ 0 ∷ 0 ∷ [])

abbrev tagged : List ℕ
tagged = take 12 frame ++ (0x81 ∷ 0 ∷ 0 ∷ 7 ∷ []) ++ drop 12 frame

-- its block at 5 ticks, by its lengths
abbrev packet : ℕ → ℕ → List ℕ → List ℕ
packet size captured bytes =
    (6 ∷ 0 ∷ 0 ∷ 0 ∷ size ∷ 0 ∷ 0 ∷ 0 ∷ 0 ∷ 0 ∷ 0 ∷ 0 ∷ 0 ∷ 0 ∷ 0 ∷ 0 ∷ 5 ∷ 0 ∷ 0 ∷ 0 ∷ captured ∷ 0 ∷ 0 ∷ 0 ∷ captured ∷ 0 ∷ 0 ∷ 0 ∷ []) ++ bytes ++ (0 ∷ 0 ∷ size ∷ 0 ∷ 0 ∷ 0 ∷ [])

abbrev capture : List ℕ
capture = section ++ interface 1 255 255 ++ packet 76 42 frame

abbrev read : ℕ → List ℕ → NgItem
read captured bytes = Packet (record { order = Little; interface = 0; ticks = 5; options = []; packet = record { seconds = 0; fraction = 5000; wire = captured; frame = bytes } })

abbrev items : List NgItem
items = Section section ∷ Interface Little (interface 1 255 255) ∷ read 42 frame ∷ []

three_blocks : blocks_of start capture ≡ record { items = items; fault = None }
unfolding blocks_of options_of copied
three_blocks = refl

written_again : flat_map (item_bytes 0) items ≡ capture
unfolding packet_head
written_again = refl

-- with a tagger the snaplen grows by four, and the last block by the tag
written_tagged : flat_map (item_bytes 4) (Section section ∷ Interface Little (interface 1 255 255) ∷ read 46 tagged ∷ []) ≡ section ++ (1 ∷ 0 ∷ 0 ∷ 0 ∷ 20 ∷ 0 ∷ 0 ∷ 0 ∷ 1 ∷ 0 ∷ 0 ∷ 0 ∷ 3 ∷ 0 ∷ 1 ∷ 0 ∷ 20 ∷ 0 ∷ 0 ∷ 0 ∷ []) ++ packet 80 46 tagged
unfolding packet_head
written_tagged = refl

-- a snaplen of 0 stays
no_limit : item_bytes 4 (Interface Little (interface 1 0 0)) ≡ interface 1 0 0
no_limit = refl

-- cut inside the third block
cut : blocks_of start (take 100 capture) ≡ record { items = Section section ∷ Interface Little (interface 1 255 255) ∷ []; fault = Some (CutBlock 3) }
unfolding blocks_of options_of copied
cut = refl

-- the faults, in their order
abbrev behind : ℕ → ℕ → Place
behind blocks packets = record { order = Little; units = 1000000 ∷ []; blocks = blocks; packets = packets }

seven_left : next_of (behind 2 0) (take 7 (packet 76 42 frame)) ≡ Err (CutBlock 3)
seven_left = refl

eleven_left : next_of start (take 11 section) ≡ Err (CutBlock 1)
eleven_left = refl

bad_magic : next_of start (take 8 section ++ 0x4e ∷ [] ++ drop 9 section) ≡ Err (BadBlock 1)
bad_magic = refl

bad_length : next_of (behind 2 0) (packet 77 42 frame) ≡ Err (BadBlock 3)
bad_length = refl

simple_packet : next_of (behind 2 0) (3 ∷ 0 ∷ 0 ∷ 0 ∷ 16 ∷ 0 ∷ 0 ∷ 0 ∷ []) ≡ Err (BadBlock 3)
simple_packet = refl

too_long : next_of (behind 2 0) (6 ∷ 0 ∷ 0 ∷ 0 ∷ 4 ∷ 0 ∷ 0 ∷ 1 ∷ []) ≡ Err (BlockTooLong 3 16777220)
too_long = refl

other_length : next_of (behind 2 0) (take 72 (packet 76 42 frame) ++ 72 ∷ 0 ∷ 0 ∷ 0 ∷ []) ≡ Err (BadBlock 3)
other_length = refl

bad_link : next_of (behind 1 0) (interface 113 255 255) ≡ Err (BadLink 113)
unfolding options_of
bad_link = refl

-- an interface with an option 9, of this resolution
abbrev timed : ℕ → List ℕ
timed r = 1 ∷ 0 ∷ 0 ∷ 0 ∷ 28 ∷ 0 ∷ 0 ∷ 0 ∷ 1 ∷ 0 ∷ 0 ∷ 0 ∷ 0 ∷ 0 ∷ 0 ∷ 0 ∷ 9 ∷ 0 ∷ 1 ∷ 0 ∷ r ∷ 0 ∷ 0 ∷ 0 ∷ 28 ∷ 0 ∷ 0 ∷ 0 ∷ []

bad_resolution : next_of (behind 1 0) (timed 19) ≡ Err (BadResolution 2)
unfolding options_of
bad_resolution = refl

nanoseconds : next_of (behind 1 0) (timed 9) ≡ Ok (Some (Interface Little (timed 9), record { order = Little; units = 1000000 ∷ 1000000000 ∷ []; blocks = 2; packets = 0 }, []))
unfolding options_of copied
nanoseconds = refl

no_interface : next_of (record { order = Little; units = []; blocks = 2; packets = 0 }) (packet 76 42 frame) ≡ Err (NoInterface 3)
no_interface = refl

too_many_records : next_of (behind 9 4294967295) (packet 76 42 frame) ≡ Err TooManyRecords
too_many_records = refl

bad_data : next_of (behind 2 0) (packet 76 45 frame) ≡ Err (BadBlock 3)
bad_data = refl

too_many_blocks : next_of (behind 1099511627775 7) (packet 76 42 frame) ≡ Err TooManyBlocks
too_many_blocks = refl

-- options: code 0 ends the list whatever its length, and the first option 9 of length 1 counts
ended : resolution_of (options_of Little (0 ∷ 0 ∷ 99 ∷ 0 ∷ [])) ≡ 6
unfolding options_of
ended = refl

second : resolution_of (options_of Big (0 ∷ 9 ∷ 0 ∷ 2 ∷ 3 ∷ 3 ∷ 0 ∷ 0 ∷ 0 ∷ 9 ∷ 0 ∷ 1 ∷ 137 ∷ 0 ∷ 0 ∷ 0 ∷ [])) ≡ 137
unfolding options_of
second = refl

-- custom options that must not be copied are left out; what follows the end of the list stays
left_out : copied Little ((0xac ∷ 0x4b ∷ 3 ∷ 0 ∷ 97 ∷ 98 ∷ 99 ∷ 0 ∷ []) ++ (2 ∷ 0 ∷ 1 ∷ 0 ∷ 120 ∷ 0 ∷ 0 ∷ 0 ∷ []) ++ (0xad ∷ 0x4b ∷ 0 ∷ 0 ∷ []) ++ (0 ∷ 0 ∷ 0 ∷ 0 ∷ []) ++ (0xac ∷ 0x4b ∷ 0 ∷ 0 ∷ []))
    ≡ (2 ∷ 0 ∷ 1 ∷ 0 ∷ 120 ∷ 0 ∷ 0 ∷ 0 ∷ []) ++ (0 ∷ 0 ∷ 0 ∷ 0 ∷ []) ++ (0xac ∷ 0x4b ∷ 0 ∷ 0 ∷ [])
unfolding copied
left_out = refl

over_the_end : copied Big ((0x4b ∷ 0xac ∷ 0 ∷ 0 ∷ []) ++ (0x4b ∷ 0xad ∷ 0 ∷ 5 ∷ 1 ∷ 2 ∷ 3 ∷ 4 ∷ [])) ≡ 0x4b ∷ 0xad ∷ 0 ∷ 5 ∷ 1 ∷ 2 ∷ 3 ∷ 4 ∷ []
unfolding copied
over_the_end = refl

others_stay : copied Big (0x0b ∷ 0xac ∷ 0 ∷ 0 ∷ 0x0b ∷ 0xad ∷ 0 ∷ 0 ∷ []) ≡ 0x0b ∷ 0xac ∷ 0 ∷ 0 ∷ 0x0b ∷ 0xad ∷ 0 ∷ 0 ∷ []
unfolding copied
others_stay = refl

-- a block of this length in place of another, with bytes of options in front of its end
abbrev with_custom : ℕ → List ℕ → List ℕ
with_custom size block = take 4 block ++ (size ∷ 0 ∷ 0 ∷ 0 ∷ []) ++ take (size - 16) (drop 8 block) ++ (0xad ∷ 0x4b ∷ 0 ∷ 0 ∷ []) ++ (size ∷ 0 ∷ 0 ∷ 0 ∷ [])

custom_in_section : next_of start (with_custom 32 section) ≡ Ok (Some (Section section, record { order = Little; units = []; blocks = 1; packets = 0 }, []))
unfolding copied
custom_in_section = refl

custom_in_interface : next_of (behind 1 0) (with_custom 24 (interface 1 255 255)) ≡ Ok (Some (Interface Little (interface 1 255 255), record { order = Little; units = 1000000 ∷ 1000000 ∷ []; blocks = 2; packets = 0 }, []))
unfolding options_of copied
custom_in_interface = refl

custom_in_packet : next_of (behind 2 0) (with_custom 80 (packet 76 42 frame)) ≡ Ok (Some (read 42 frame, behind 3 1, []))
unfolding copied
custom_in_packet = refl

-- so are custom blocks that must not be copied, and no others
abbrev custom : ℕ → List ℕ
custom high = 0xad ∷ 0x0b ∷ 0 ∷ high ∷ 16 ∷ 0 ∷ 0 ∷ 0 ∷ 1 ∷ 2 ∷ 3 ∷ 4 ∷ 16 ∷ 0 ∷ 0 ∷ 0 ∷ []

custom_left_out : next_of (behind 2 0) (custom 0x40) ≡ Ok (Some (Carried [], behind 3 0, []))
custom_left_out = refl

custom_carried : next_of (behind 2 0) (custom 0) ≡ Ok (Some (Carried (custom 0), behind 3 0, []))
custom_carried = refl

-- times: whole nanoseconds, rounded down, and at most the last one
half : nanoseconds_of (ticks_in_second 129) 3 ≡ 1500000000
half = refl

picoseconds : nanoseconds_of (ticks_in_second 12) 1999 ≡ 1
picoseconds = refl

last : nanoseconds_of (ticks_in_second 0) 4294967296 ≡ 4294967295999999999
last = refl
