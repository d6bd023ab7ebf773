-- For proofs: a frame that is split into its fields and its rest, and joined again.
use Rattle.std.specs.Prelude.{◌≡◌, ◌≢◌, ℕ, ◌+◌, ◌*◌, List, length, true, Option, IfSome, option_map, is_some, if◌then◌else◌}
use Rattle.packet_fields.specs.Frames.{is_tag_list}
use Rattle.packet_fields.specs.Fields.{value}
use Rattle.packet_fields.specs.Writing.{written, rest_of, AllFit}
use Rattle.packet_fields.specs.declared.field.Field.{Field}
use Rattle.packet_fields.specs.declared.field.Field.TheVariants.{Tag}
use Rattle.action_profile.specs.Profiles.{is_tag}
use Rattle.chain_walk.specs.Shown.{fixed_of}
use Rattle.packet_version.specs.Parts.{PlainPart, Parts, as_list, as_map, values_of}
use Rattle.chain_walk.specs.declared.fixed.Fixed.{Fixed}

-- The parts of a packet in the fields' order, its frame without them, and its fixed values.
pub record PlainApart : Type 0 where
  pub parts : List (Option PlainPart)
  pub rest : List ℕ
  pub fixed : Fixed

abbrev pub packet_parts : PlainApart → Parts
packet_parts whole = as_map whole.parts

-- room for this number of further tags of four bytes each, in the list of tags alone
abbrev pub spare_room : ℕ → Field → ℕ
spare_room taggers f = if is_tag f then 4 * taggers else 0

-- a part of these bytes, with no writer
abbrev pub fresh : ℕ → List ℕ → PlainPart
fresh spare bytes = record { bytes = bytes; writer = 0; room = length bytes + spare }

-- the part of each field of a frame
abbrev pub split_parts : ℕ → List ℕ → Parts
split_parts taggers frame f = option_map (fresh (spare_room taggers f)) (value f frame)

-- a split frame, which was captured at this time
abbrev pub taken_apart : ℕ → ℕ → List ℕ → PlainApart
taken_apart taggers time frame = record { parts = as_list (split_parts taggers frame); rest = rest_of frame; fixed = fixed_of time frame }

-- the frame of some parts: its rest, with each part in its field's place
abbrev pub joined : PlainApart → List ℕ
joined whole = written (values_of (packet_parts whole)) whole.rest

-- these are the parts of such a frame: there is one exactly when the frame has the field, and it fits
-- the field's place
pub record IsWhole (parts : Parts) (frame : List ℕ) : Type 0 where
  pub there : (f : Field) → is_some (parts f) ≡ is_some (value f frame)
  pub fits : AllFit (values_of parts) frame

-- Parts of the same fields as others and of the same lengths, except the tags, which are whole: they fit the same rest.
pub record IsShapedAs (old new : Parts) : Type 0 where
  pub there : (f : Field) → is_some (new f) ≡ is_some (old f)
  pub lengths : (f : Field) → f ≢ Tag → option_map (λ p. length p.bytes) (new f) ≡ option_map (λ p. length p.bytes) (old f)
  pub tags : IfSome (new Tag) (λ p. is_tag_list p.bytes ≡ true)
