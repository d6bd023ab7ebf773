-- A part that is written in its frame.
use Rattle.std.proofs.Common.{◌≡◌, ◌≢◌, ◌∙◌, ◌<◌, ◌+◌, ℕ, zero, suc, true, false, List, [], ◌∷◌, sym, ap, refl, subst, get_or, length, set, arith}
use Rattle.std.specs.Prelude.{Option, Some, None, IsSomeAnd, option_map}
use Rattle.std.proofs.lemmas.Bool.{false≢true}
use Rattle.packet_fields.specs.Fields.{number_of, value}
use Rattle.packet_fields.specs.Writing.{Fits}
use Rattle.packet_fields.specs.declared.field.Field.{Field}
use Rattle.packet_fields.specs.declared.field.Field.TheVariants.{LinkDst, LinkSrc, Tag, Tos, Ttl, SrcIp, DstIp, SrcPort, DstPort, Payload}
use Rattle.packet_version.specs.Parts.{PlainPart, PlainHeld, Parts, as_map, as_list, changed, rewritten, by_writer}
use Rattle.packet_version.specs.Places.{place_of, part_in, parts_in, parts_within, writer_at, is_outside, opened, rewritten_place}
use Rattle.packet_version.specs.Splitting.{split_parts, fresh, spare_room}
use Rattle.packet_version.specs.declared.place.Place.{Place}
use Rattle.packet_version.specs.declared.place.Place.TheVariants.{Inside, Gone, Outside}
use Rattle.packet_version.proofs.Keeping.{held_of, parts_held, parts_changed, set_here, set_other, same_writer}

-- a place that is beside the frame is listed
pub outside_listed : (places : List Place) (n : ℕ) → is_outside (get_or places n Inside) ≡ true → n < length places
outside_listed [] zero is = absurd (false≢true is)
outside_listed [] (suc n) is = absurd (false≢true is)
outside_listed (p ∷ ps) zero is = omega arith
outside_listed (p ∷ ps) (suc n) is = let h = outside_listed ps n is in omega arith

pub outside_ten : (places : List Place) (f : Field) → is_outside (place_of places f) ≡ true → length (opened places) ≡ 10 → length places ≡ 10
outside_ten [] f is ten = let h = outside_listed [] (number_of f) is in absurd (omega arith)
outside_ten (p ∷ ps) f is ten = ten

-- a part that is here, and not beside the frame, is in it
pub some_inside : (taggers : ℕ) (frame writers : List ℕ) (f : Field) (p : Place) (P : PlainPart → Type 0) → is_outside p ≡ false → IsSomeAnd (part_in taggers frame writers f p) P → p ≡ Inside
some_inside taggers frame writers f Inside P other some = refl
some_inside taggers frame writers f Gone P other some = absurd some
some_inside taggers frame writers f (Outside part) P other some = absurd (false≢true (sym other))

abbrev Fitting : List ℕ → Option (List ℕ) → Type 0
Fitting new o = IsSomeAnd o (λ old. length new ≡ length old)

-- a value of the old one's length fits its field's place
fits_place : (f : Field) (new frame : List ℕ) → f ≢ Tag → Fitting new (value f frame) → Fits f new frame
fits_place Tag new frame other fits = absurd (other refl)
fits_place LinkDst new frame other fits = fits
fits_place LinkSrc new frame other fits = fits
fits_place Tos new frame other fits = fits
fits_place Ttl new frame other fits = fits
fits_place SrcIp new frame other fits = fits
fits_place DstIp new frame other fits = fits
fits_place SrcPort new frame other fits = fits
fits_place DstPort new frame other fits = fits
fits_place Payload new frame other fits = fits

fitting_value : (spare writer : ℕ) (new : List ℕ) (o : Option (List ℕ)) → IsSomeAnd (option_map (by_writer writer) (option_map (fresh spare) o)) (λ p. length new ≡ length p.bytes) → Fitting new o
fitting_value spare writer new None fits = fits
fitting_value spare writer new (Some v) fits = fits

-- a value of the length of a part that is in the frame fits
pub within_fits : (taggers : ℕ) (frame writers : List ℕ) (f : Field) (new : List ℕ) → f ≢ Tag → IsSomeAnd (parts_within taggers frame writers f) (λ p. length new ≡ length p.bytes) → Fits f new frame
within_fits taggers frame writers f new other fits = fits_place f new frame other (fitting_value (spare_room taggers f) (writer_at writers f) new (value f frame) fits)

set_value : (spare writer before : ℕ) (new : List ℕ) (o next : Option (List ℕ)) → next ≡ Some new → IsSomeAnd (option_map (by_writer before) (option_map (fresh spare) o)) (λ p. length new ≡ length p.bytes) → option_map (by_writer writer) (option_map (fresh spare) next) ≡ option_map (rewritten new writer) (option_map (by_writer before) (option_map (fresh spare) o))
set_value spare writer before new None next is fits = absurd fits
set_value spare writer before new (Some v) next is fits =
    ap (λ (q : Option (List ℕ)). option_map (by_writer writer) (option_map (fresh spare) q)) is
    ∙ ap (λ (len : ℕ). let p : PlainPart = record { bytes = new; writer = writer; room = len + spare } in Some p) fits

-- the part of a field whose value and whose writer stay
stays_in : (taggers : ℕ) (frame next writers : List ℕ) (f : Field) (p : Place) → value f next ≡ value f frame → part_in taggers next writers f p ≡ part_in taggers frame writers f p
stays_in taggers frame next writers f Inside same = ap (λ (o : Option (List ℕ)). option_map (by_writer (writer_at writers f)) (option_map (fresh (spare_room taggers f)) o)) same
stays_in taggers frame next writers f Gone same = refl
stays_in taggers frame next writers f (Outside part) same = refl

-- the place of a part that is here, but not beside the frame
pub place_within : (taggers : ℕ) (frame writers : List ℕ) (places : List Place) (f : Field) (new : List ℕ) (old : PlainHeld) → is_outside (place_of places f) ≡ false → IsSomeAnd (as_map old.parts f) (λ p. length new ≡ length p.bytes) → held_of taggers frame writers places ≡ old → place_of places f ≡ Inside
place_within taggers frame writers places f new old other fits old_is =
    some_inside taggers frame writers f (place_of places f) (λ p. length new ≡ length p.bytes) other
    (subst (λ (m : Parts). IsSomeAnd (m f) (λ p. length new ≡ length p.bytes)) (parts_held taggers frame writers places old old_is) fits)

-- the part of a field that is in the frame
pub held_within_at : (taggers : ℕ) (frame writers : List ℕ) (places : List Place) (f : Field) (old : PlainHeld) → place_of places f ≡ Inside → held_of taggers frame writers places ≡ old → as_map old.parts f ≡ parts_within taggers frame writers f
held_within_at taggers frame writers places f old inside old_is =
    ap (λ (m : Parts). m f) (parts_held taggers frame writers places old old_is) ∙ ap (λ (p : Place). part_in taggers frame writers f p) inside

-- what is held after a part was written in the frame
pub written_within : (taggers : ℕ) (frame next writers : List ℕ) (places : List Place) (n w : ℕ) (f : Field) (new : List ℕ) (old : PlainHeld) → n ≡ number_of f → n < 10 → length writers ≡ 10 → is_outside (place_of places f) ≡ false → IsSomeAnd (as_map old.parts f) (λ p. length new ≡ length p.bytes) → value f next ≡ Some new → ((g : Field) → f ≢ g → value g next ≡ value g frame) → held_of taggers frame writers places ≡ old → as_list (parts_in taggers next (set writers n w) places) ≡ as_list (changed f (option_map (rewritten new w) (as_map old.parts f)) (as_map old.parts))
written_within taggers frame next writers places n w f new old is below all other fits written others old_is =
    let inside = place_within taggers frame writers places f new old other fits old_is in
    let read = held_within_at taggers frame writers places f old inside old_is in
    let within : n < length writers = omega arith in
    let ws = set writers n w in
    let fitting = subst (λ (o : Option PlainPart). IsSomeAnd o (λ p. length new ≡ length p.bytes)) read fits in
    ap as_list
    (parts_changed f (option_map (rewritten new w) (as_map old.parts f)) (parts_in taggers frame writers places) (parts_in taggers next ws places)
    (ap (λ (p : Place). part_in taggers next ws f p) inside
    ∙ (ap (λ (v : ℕ). option_map (by_writer v) (split_parts taggers next f)) (set_here writers n f w 0 is within)
    ∙ (set_value (spare_room taggers f) w (writer_at writers f) new (value f frame) (value f next) written fitting
    ∙ sym (ap (λ (o : Option PlainPart). option_map (rewritten new w) o) read))))
    (λ g apart.
    same_writer taggers next writers ws g (place_of places g) (set_other writers n f g w 0 is within apart)
    ∙ stays_in taggers frame next writers g (place_of places g) (others g (λ same. apart (ap number_of (sym same)))))
    ∙ ap (λ (m : Parts). changed f (option_map (rewritten new w) (as_map old.parts f)) m) (sym (parts_held taggers frame writers places old old_is)))

-- a place beside the frame whose part was written
pub place_rewritten : (taggers : ℕ) (frame writers : List ℕ) (f : Field) (p : Place) (new : List ℕ) (w : ℕ) → is_outside p ≡ true → part_in taggers frame writers f (rewritten_place new w p) ≡ option_map (rewritten new w) (part_in taggers frame writers f p)
place_rewritten taggers frame writers f Inside new w is = absurd (false≢true is)
place_rewritten taggers frame writers f Gone new w is = refl
place_rewritten taggers frame writers f (Outside part) new w is = refl
