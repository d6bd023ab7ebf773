-- Believed: sets of fields.
use Rattle.std.specs.Prelude.{◌^◌, List, [], ◌∷◌, Bool, ◌==◌, fold}
use Rattle.std.specs.Int.{bit_at}
use Rattle.std.specs.Int.RustNames.{bit_or}
use Rattle.packet_fields.specs.Fields.{number_of}
use Rattle.packet_fields.specs.declared.field.Field.{Field}
use Rattle.packet_fields.specs.declared.field.Field.TheVariants.{LinkDst, LinkSrc, Tag, Tos, Ttl, SrcIp, DstIp, SrcPort, DstPort, Payload}
use Rattle.action_profile.specs.declared.field_set.FieldSet.{FieldSet}

-- a field is in a set if the bit of its number is 1
abbrev pub has : FieldSet → Field → Bool
has set f = bit_at set.0 (number_of f) == 1

-- no bit of a set is 1
abbrev pub is_none : FieldSet → Bool
is_none set = set.0 == 0

-- the set of one field
abbrev pub alone : Field → FieldSet
alone f = record { 0 = 2 ^ number_of f }

-- the fields of either set
abbrev pub joined : FieldSet → FieldSet → FieldSet
joined a b = record { 0 = bit_or a.0 b.0 }

-- every field, in order
abbrev pub all_fields : List Field
all_fields = LinkDst ∷ LinkSrc ∷ Tag ∷ Tos ∷ Ttl ∷ SrcIp ∷ DstIp ∷ SrcPort ∷ DstPort ∷ Payload ∷ []

-- a set with one more field
abbrev pub with_field : FieldSet → Field → FieldSet
with_field set f = joined set (alone f)

-- the set of these fields
abbrev pub fields : List Field → FieldSet
fields fs = fold with_field (record { 0 = 0 }) fs
