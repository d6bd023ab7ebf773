-- Believed: the text of a field's value, and of a change of it.
use Rattle.std.specs.Prelude.{ℕ, ◌/◌, ◌%◌, ◌==◌, List, [], ◌∷◌, ◌++◌, length, max, count_by, slice_get, Bool, true, false, not, if◌then◌else◌, Option, Some, None, codes}
use Rattle.std.specs.Char.{digit_char}
use Rattle.std.specs.Fmt.{decimal}
use Rattle.std.specs.List.{flat_map, range_with_len}
use Rattle.std.specs.Option.{option_map_or}
use Rattle.std.specs.Str.{bytes_eq}
use Rattle.byteorder.specs.Endian.{big_number}
use Rattle.first_sight.specs.Addresses.{address_text}
use Rattle.frame_seen.specs.Seeing.{ip_address_of}
use Rattle.packet_fields.specs.Fields.{name_of}
use Rattle.packet_fields.specs.declared.field.Field.{Field}
use Rattle.packet_fields.specs.declared.field.Field.TheVariants.{LinkDst, LinkSrc, Tag, Tos, Ttl, SrcIp, DstIp, SrcPort, DstPort, Payload}
use Rattle.text_lines.specs.Texts.{joined}

-- ---- a value

-- a byte as two hexadecimal digits in lower case
abbrev pub pair : ℕ → List ℕ
pair byte = digit_char (byte / 16) ∷ digit_char (byte % 16) ∷ []

abbrev pub pairs : List ℕ → List ℕ
pairs bytes = flat_map pair bytes

-- the pairs of an Ethernet address, separated by colons
abbrev pub link_text : List ℕ → List ℕ
link_text [] = []
link_text (byte ∷ rest) = pair byte ++ flat_map (λ b. codes ":" ++ pair b) rest

-- the bytes of a list of tags, or `none`
abbrev pub tags_text : List ℕ → List ℕ
tags_text [] = codes "none"
tags_text (byte ∷ rest) = pairs (byte ∷ rest)

-- an address of either version of IP, as in the report
abbrev pub ip_text : List ℕ → List ℕ
ip_text bytes = option_map_or address_text (ip_address_of bytes) (codes "none")

-- the bytes of a field that is present; a number has its most significant byte first
abbrev pub present_text : Field → List ℕ → List ℕ
present_text LinkDst bytes = link_text bytes
present_text LinkSrc bytes = link_text bytes
present_text Tag bytes = tags_text bytes
present_text Tos bytes = decimal (big_number 1 bytes)
present_text Ttl bytes = decimal (big_number 1 bytes)
present_text SrcIp bytes = ip_text bytes
present_text DstIp bytes = ip_text bytes
present_text SrcPort bytes = decimal (big_number 2 bytes)
present_text DstPort bytes = decimal (big_number 2 bytes)
present_text Payload bytes = tags_text bytes

-- the value of a field, or `none` if it is absent
abbrev pub value_text : Field → Option (List ℕ) → List ℕ
value_text f None = codes "none"
value_text f (Some bytes) = present_text f bytes

-- ---- a change

abbrev pub is_same : Option (List ℕ) → Option (List ℕ) → Bool
is_same None None = true
is_same (Some old) (Some new) = bytes_eq old new
is_same old new = false

-- both have the same byte at a place, or none
abbrev pub is_same_byte : Option ℕ → Option ℕ → Bool
is_same_byte None None = true
is_same_byte (Some old) (Some new) = old == new
is_same_byte old new = false

abbrev pub differs_at : List ℕ → List ℕ → ℕ → Bool
differs_at old new place = not (is_same_byte (slice_get old place) (slice_get new place))

-- the number of places at which two payloads differ, those among them that only one of them has
abbrev pub differing : List ℕ → List ℕ → ℕ
differing old new = count_by (differs_at old new) (range_with_len 0 (max (length old) (length new)))

abbrev pub bytes_or_none : Option (List ℕ) → List ℕ
bytes_or_none None = []
bytes_or_none (Some bytes) = bytes

-- `  payload N bytes differ`
unfoldable pub payload_line : Option (List ℕ) → Option (List ℕ) → List ℕ
payload_line old new = joined (codes "  payload " ∷ decimal (differing (bytes_or_none old) (bytes_or_none new)) ∷ codes " bytes differ\n" ∷ [])

-- `  FIELD OLD NEW`
unfoldable pub value_line : Field → Option (List ℕ) → Option (List ℕ) → List ℕ
value_line f old new = joined (codes "  " ∷ name_of f ∷ codes " " ∷ value_text f old ∷ codes " " ∷ value_text f new ∷ codes "\n" ∷ [])

abbrev pub field_line : Field → Option (List ℕ) → Option (List ℕ) → List ℕ
field_line Payload old new = payload_line old new
field_line f old new = value_line f old new

-- the line of a field, if its value differs
unfoldable pub change_line : Field → Option (List ℕ) → Option (List ℕ) → List ℕ
change_line f old new = if is_same old new then [] else field_line f old new
