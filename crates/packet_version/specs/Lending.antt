-- For proofs: bytes that are lent for writing.
use Rattle.std.specs.Prelude.{ℕ, List, ◌++◌, take, drop, length, Option, option_map, slice_set}
use Rattle.std.specs.Borrow.{Lends, MutBor, Fml, Array, u8}
use Rattle.packet_fields.specs.declared.field.Field.{Field}
use Rattle.packet_version.specs.Parts.{PlainPart, PlainHeld, as_map, as_list, changed, rewritten}
use Rattle.std.specs.contracts.option.Option.{the_row as option_of}
use Rattle.packet_version.specs.contracts.part.Part.{the_row}
use Rattle.packet_version.specs.declared.place.Place.{Place}
use Rattle.packet_version.specs.declared.place.Place.TheVariants.{Outside}
use Rattle.packet_version.specs.contracts.place.Place.{the_row as place_row}
use Rattle.packet_version.specs.contracts.places.Places.{the_row as places_row}
use Rattle.packet_version.specs.contracts.contents.Contents.{the_row as contents_row}
use Rattle.packet_version.specs.contracts.held.Held.{the_row as held_row}

-- new bytes over old ones, as many as before
abbrev pub over : List ℕ → List ℕ → List ℕ
over new old = take (length old) (new ++ drop (length new) old)

-- a part in which these bytes were left
abbrev pub edited : List ℕ → ℕ → PlainPart → PlainPart
edited new writer part = rewritten (over new part.bytes) writer part

-- the part ends with the bytes that were left, by this writer
abbrev pub LendsBytes : MutBor PlainPart → ℕ → MutBor (List ℕ) → Fml
LendsBytes part writer lent = Lends the_row (Array u8 0) part lent (λ w. edited w writer part.now)

-- a part that is there ends with the bytes that were left
abbrev pub LendsPart : MutBor (Option PlainPart) → ℕ → MutBor (List ℕ) → Fml
LendsPart part writer lent = Lends (option_of the_row) (Array u8 0) part lent (λ w. option_map (edited w writer) part.now)

-- a place in whose part these bytes were left
abbrev pub edited_place : List ℕ → ℕ → Place → Place
edited_place new writer (Outside part) = Outside (edited new writer part)
edited_place new writer place = place

-- a place beside the frame ends with the bytes that were left
abbrev pub LendsPlace : MutBor Place → ℕ → MutBor (List ℕ) → Fml
LendsPlace place writer lent = Lends place_row (Array u8 0) place lent (λ w. edited_place w writer place.now)

-- places of which one ends with the bytes that were left there
abbrev pub LendsListed : MutBor (List Place) → ℕ → MutBor Place → Fml
LendsListed places n lent = Lends places_row place_row places lent (λ p. slice_set places.now n p)

-- what is held after these bytes were left in a field
abbrev pub left_there : Field → List ℕ → ℕ → PlainHeld → PlainHeld
left_there f new writer held = record held { parts = as_list (changed f (option_map (edited new writer) (as_map held.parts f)) (as_map held.parts)) }

-- what is held ends with the bytes that were left
abbrev pub LendsContents : MutBor PlainHeld → Field → ℕ → MutBor (List ℕ) → Fml
LendsContents held f writer lent = Lends contents_row (Array u8 0) held lent (λ w. left_there f w writer held.now)

abbrev pub LendsHeld : MutBor PlainHeld → Field → ℕ → MutBor (List ℕ) → Fml
LendsHeld held f writer lent = Lends held_row (Array u8 0) held lent (λ w. left_there f w writer held.now)

-- the same if there is something held
abbrev pub LendsWithin : MutBor (Option PlainHeld) → Field → ℕ → MutBor (List ℕ) → Fml
LendsWithin within f writer lent = Lends (option_of held_row) (Array u8 0) within lent (λ w. option_map (left_there f w writer) within.now)
