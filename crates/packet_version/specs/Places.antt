-- For proofs: where the parts of a packet are.
use Rattle.std.specs.Prelude.{◌≡◌, ℕ, List, [], ◌∷◌, length, Option, Some, None, Bool, true, false, map, slice_index_or, option_map}
use Rattle.packet_fields.specs.Fields.{number_of, value}
use Rattle.packet_fields.specs.Writing.{all_fields}
use Rattle.packet_fields.specs.declared.field.Field.{Field}
use Rattle.packet_version.specs.Parts.{PlainPart, Parts, unwritten, rewritten, by_writer}
use Rattle.packet_version.specs.Splitting.{split_parts, fresh}
use Rattle.packet_version.specs.declared.place.Place.{Place}
use Rattle.packet_version.specs.declared.place.Place.TheVariants.{Inside, Gone, Outside}

-- the place of a field's part, which is in the frame if none is listed
abbrev pub place_of : List Place → Field → Place
place_of places f = slice_index_or places (number_of f) Inside

-- the writer of the part of a field that is in the frame, 0 if there is none
abbrev pub writer_at : List ℕ → Field → ℕ
writer_at writers f = slice_index_or writers (number_of f) 0

-- the part of a field, by its place
abbrev pub part_in : ℕ → List ℕ → List ℕ → Field → Place → Option PlainPart
part_in taggers frame writers f Inside = option_map (by_writer (writer_at writers f)) (split_parts taggers frame f)
part_in taggers frame writers f Gone = None
part_in taggers frame writers f (Outside part) = Some part

abbrev pub parts_in : ℕ → List ℕ → List ℕ → List Place → Parts
parts_in taggers frame writers places f = part_in taggers frame writers f (place_of places f)

-- the parts of a frame that has every part in it
abbrev pub parts_within : ℕ → List ℕ → List ℕ → Parts
parts_within taggers frame writers f = part_in taggers frame writers f Inside

-- the part that is beside the frame, if there is one
abbrev pub beside : Place → Option PlainPart
beside (Outside part) = Some part
beside place = None

abbrev pub parts_beside : List Place → Parts
parts_beside places f = beside (place_of places f)

abbrev pub is_outside : Place → Bool
is_outside (Outside part) = true
is_outside place = false

-- every part is in the frame
abbrev pub inside_all : List Place
inside_all = map (λ f. Inside) all_fields

-- the same place, with no writer of its part
abbrev pub unwritten_place : Place → Place
unwritten_place (Outside part) = Outside (unwritten part)
unwritten_place place = place

-- the same place, after other bytes were written into its part
abbrev pub rewritten_place : List ℕ → ℕ → Place → Place
rewritten_place bytes writer (Outside part) = Outside (rewritten bytes writer part)
rewritten_place bytes writer place = place

-- the place of a part that was made of one in the frame, if there is one
abbrev pub place_made : Option PlainPart → Place
place_made None = Inside
place_made (Some part) = Outside part

-- the same place, after its part was taken out of the frame
abbrev pub brought : List ℕ → ℕ → Field → Place → Place
brought frame writer f Inside = place_made (option_map (by_writer writer) (option_map (fresh 0) (value f frame)))
brought frame writer f place = place

-- a place for each field: if none is listed, every part is in the frame
abbrev pub opened : List Place → List Place
opened [] = inside_all
opened (p ∷ ps) = p ∷ ps

-- the places that are listed, of the cells in which they lie
abbrev pub listed_of : Bool → List Place → List Place
listed_of true cells = cells
listed_of false cells = []

-- There is a cell for each field, and as long as no place is listed, every part is in the frame.
pub record AreCells (listed : Bool) (cells : List Place) : Type 0 where
  pub ten : length cells ≡ 10
  pub inside : listed ≡ false → cells ≡ inside_all

-- There is a place for each field, or none as long as every part is in the frame.
pub record ArePlaces (places : List Place) : Type 0 where
  pub ten : length (opened places) ≡ 10
