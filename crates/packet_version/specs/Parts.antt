-- For proofs: a packet in parts: for each field that it has, its bytes, their last writer, and how many fit.
use Rattle.std.specs.Prelude.{◌≡◌, ℕ, List, length, Option, Some, None, Bool, true, if◌then◌else◌, ◌==◌, option_map, slice_index_or, map, IfSome}
use Rattle.packet_fields.specs.Frames.{is_tag_list}
use Rattle.packet_fields.specs.Fields.{number_of, IsLengthOf}
use Rattle.packet_fields.specs.Writing.{all_fields}
use Rattle.packet_fields.specs.declared.field.Field.{Field}
use Rattle.packet_fields.specs.declared.field.Field.TheVariants.{Tag}

-- A field's bytes, the chain position of the function that wrote them last in this stage (0 if none
-- did), and the greatest number of bytes that it can have without allocating memory.
pub record PlainPart : Type 0 where
  pub bytes : List ℕ
  pub writer : ℕ
  pub room : ℕ

-- the part of each field, if there is one
abbrev pub Parts : Type 0
Parts = Field → Option PlainPart

-- a list of optional parts in the fields' order, read as a map
abbrev pub as_map : List (Option PlainPart) → Parts
as_map parts f = slice_index_or parts (number_of f) None

-- a map as such a list
abbrev pub as_list : Parts → List (Option PlainPart)
as_list parts = map parts all_fields

-- the bytes of each field
abbrev pub values_of : Parts → Field → Option (List ℕ)
values_of parts f = option_map (λ p. p.bytes) (parts f)

abbrev pub writer_in : Option PlainPart → ℕ
writer_in None = 0
writer_in (Some p) = p.writer

-- the last writer of each field, 0 if there is none
abbrev pub writers_of : Parts → Field → ℕ
writers_of parts f = writer_in (parts f)

-- two names of one field
abbrev pub is_field : Field → Field → Bool
is_field f g = number_of f == number_of g

-- the parts with this part in a field's place, or none
abbrev pub changed : Field → Option PlainPart → Parts → Parts
changed f part parts g = if is_field f g then part else parts g

-- a part that nobody wrote in this stage
abbrev pub unwritten : PlainPart → PlainPart
unwritten p = record p { writer = 0 }

-- a part by this writer
abbrev pub by_writer : ℕ → PlainPart → PlainPart
by_writer writer p = record p { writer = writer }

-- a part with other bytes, by this writer
abbrev pub rewritten : List ℕ → ℕ → PlainPart → PlainPart
rewritten bytes writer p = record p { bytes = bytes; writer = writer }

-- the bytes of a part, if it is there, are whole tags
abbrev pub AreTags : Option PlainPart → Type 0
AreTags part = IfSome part (λ p. is_tag_list p.bytes ≡ true)

-- Bytes that are a field's: as many as the field has, and for the tags whole tags.
pub record IsValueOf (f : Field) (bytes : List ℕ) : Type 0 where
  pub size : IsLengthOf f (length bytes)
  pub whole : f ≡ Tag → is_tag_list bytes ≡ true

-- the bytes of a part, if it is there, are the field's
abbrev pub IsPartOf : Field → Option PlainPart → Type 0
IsPartOf f part = IfSome part (λ p. IsValueOf f p.bytes)

-- The parts of a packet in the fields' order, and its frame, whose own fields don't matter.
pub record PlainHeld : Type 0 where
  pub parts : List (Option PlainPart)
  pub frame : List ℕ
