-- A frame that is joined again, field by field.
use Rattle.std.proofs.Common.{false, ◌≡◌, ◌∙◌, ◌<◌, ◌≤◌, ◌+◌, ℕ, List, [], ◌∷◌, sym, ap, refl, subst, get_or, length, drop}
use mathlib.Core.Path.{fun_ext}
use Rattle.std.specs.Prelude.{Option, Some, None, IfSome, is_some, option_map}
use Rattle.std.proofs.lemmas.Option.{same_Some}
use Rattle.std.specs.Option.{option_or}
use Rattle.packet_fields.specs.Fields.{value}
use Rattle.packet_fields.specs.Writing.{put, put_some, Fits, written_in, written, all_fields, AllFit, fields_of, blank, rest_of}
use Rattle.packet_fields.specs.declared.field.Field.{Field}
use Rattle.packet_fields.proofs.Walk.{all_fit_after, written-written, written-own, written-rest, blanks, blanks_fit, fields_fit}
use Rattle.packet_version.specs.Parts.{PlainPart, Parts, values_of, by_writer}
use Rattle.packet_version.specs.Splitting.{IsWhole, split_parts, fresh, spare_room}
use Rattle.packet_version.specs.Places.{place_of, part_in, parts_in, parts_within, writer_at, beside, parts_beside}
use Rattle.packet_version.specs.declared.place.Place.{Place}
use Rattle.packet_version.specs.declared.place.Place.TheVariants.{Inside, Gone, Outside}
use Rattle.packet_version.proofs.Maps.{left_at}
use Rattle.packet_fields.specs.declared.field.Field.TheVariants.{LinkDst}
use Rattle.std.proofs.Math.ListN.{drop_of_length-le}

-- writing the remaining fields completes what was written so far
pub record IsJoining (values : Field → Option (List ℕ)) (left : List Field) (bytes whole : List ℕ) : Type 0 where
  pub due : written_in left values bytes ≡ whole
  pub fits : AllFit values bytes

next_is : (values : Field → Option (List ℕ)) (f : Field) (fs : List Field) (bytes next whole : List ℕ) → next ≡ put_some f (values f) bytes → IsJoining values (f ∷ fs) bytes whole → IsJoining values fs next whole
unfolding written_in
next_is values f fs bytes next whole is j =
    subst (λ (xs : List ℕ). IsJoining values fs xs whole) (sym is) (record { due = j.due; fits = all_fit_after values f (values f) bytes (j.fits f) j.fits })

-- a field that has a value is written
pub joining_some : (values : Field → Option (List ℕ)) (f : Field) (fs : List Field) (bytes next whole new : List ℕ) → values f ≡ Some new → next ≡ put f new bytes → IsJoining values (f ∷ fs) bytes whole → IsJoining values fs next whole
joining_some values f fs bytes next whole new is put_is j = next_is values f fs bytes next whole (put_is ∙ sym (ap (λ (o : Option (List ℕ)). put_some f o bytes) is)) j

-- a field that has none stays
pub joining_none : (values : Field → Option (List ℕ)) (f : Field) (fs : List Field) (bytes whole : List ℕ) → values f ≡ None → IsJoining values (f ∷ fs) bytes whole → IsJoining values fs bytes whole
joining_none values f fs bytes whole none j = next_is values f fs bytes bytes whole (sym (ap (λ (o : Option (List ℕ)). put_some f o bytes) none)) j

-- a value that fits
pub joining_fits : (values : Field → Option (List ℕ)) (f : Field) (fs : List Field) (bytes whole new : List ℕ) → values f ≡ Some new → IsJoining values (f ∷ fs) bytes whole → Fits f new bytes
joining_fits values f fs bytes whole new is j = fits_at (values f) new is (j.fits f)
  where
    fits_at : (o : Option (List ℕ)) (new : List ℕ) → o ≡ Some new → IfSome o (λ v. Fits f v bytes) → Fits f new bytes
    fits_at None new e h = absurd (cc)
    fits_at (Some v) new e h = subst (λ (v : List ℕ). Fits f v bytes) (same_Some v new e) h

-- nothing remains
pub joining_over : (values : Field → Option (List ℕ)) (bytes whole : List ℕ) → IsJoining values [] bytes whole → bytes ≡ whole
unfolding written_in
joining_over values bytes whole j = j.due

some_value : (o : Option PlainPart) → is_some (option_map (λ p. p.bytes) o) ≡ is_some o
some_value None = refl
some_value (Some p) = refl

covers : (b : List ℕ → List ℕ) (o p : Option (List ℕ)) → is_some o ≡ is_some p → option_or o (option_map b p) ≡ o
covers b None None e = refl
covers b None (Some v) e = absurd (cc)
covers b (Some v) p e = refl

-- what is in the fields' places before doesn't matter
pub written-whole : (parts : Parts) (frame : List ℕ) → IsWhole parts frame → written (values_of parts) (rest_of frame) ≡ written (values_of parts) frame
written-whole parts frame w =
    written-written (values_of parts) (blanks frame) frame w.fits (blanks_fit frame)
    ∙ ap (λ (v : Field → Option (List ℕ)). written v frame) (fun_ext (λ f. covers (blank f) (values_of parts f) (value f frame) (some_value (parts f) ∙ w.there f)))

pub fresh_value : (spare : ℕ) (o : Option (List ℕ)) → option_map (λ p. p.bytes) (option_map (fresh spare) o) ≡ o
fresh_value spare None = refl
fresh_value spare (Some v) = refl

fresh_there : (spare : ℕ) (o : Option (List ℕ)) → is_some (option_map (fresh spare) o) ≡ is_some o
fresh_there spare None = refl
fresh_there spare (Some v) = refl

-- the parts of a frame have its values
pub values-split : (taggers : ℕ) (frame : List ℕ) → values_of (split_parts taggers frame) ≡ fields_of frame
values-split taggers frame = fun_ext (λ f. fresh_value (spare_room taggers f) (value f frame))

pub split_whole : (taggers : ℕ) (frame : List ℕ) → IsWhole (split_parts taggers frame) frame
split_whole taggers frame = record {
  there = λ f. fresh_there (spare_room taggers f) (value f frame);
  fits = subst (λ (v : Field → Option (List ℕ)). AllFit v frame) (sym (values-split taggers frame)) (fields_fit frame);
}

-- a frame that was split is joined again
pub joined_again : (taggers : ℕ) (frame : List ℕ) → written (values_of (split_parts taggers frame)) (rest_of frame) ≡ frame
joined_again taggers frame = ap (λ (v : Field → Option (List ℕ)). written v (rest_of frame)) (values-split taggers frame) ∙ written-rest frame

-- one turn at a field whose part is there
pub turn_some : (parts : Parts) (fields : List Field) (i : ℕ) (bytes next whole new : List ℕ) (p : PlainPart) → i < length fields → parts (get_or fields i LinkDst) ≡ Some p → new ≡ p.bytes → next ≡ put (get_or fields i LinkDst) new bytes → IsJoining (values_of parts) (drop i fields) bytes whole → IsJoining (values_of parts) (drop (i + 1) fields) next whole
turn_some parts fields i bytes next whole new p below is new_is put_is j =
    joining_some (values_of parts) (get_or fields i LinkDst) (drop (i + 1) fields) bytes next whole new (ap (λ (o : Option PlainPart). option_map (λ q. q.bytes) o) is ∙ ap (λ (v : List ℕ). Some v) (sym new_is)) put_is (subst (λ (fs : List Field). IsJoining (values_of parts) fs bytes whole) (left_at fields i below) j)

pub turn_fits : (parts : Parts) (fields : List Field) (i : ℕ) (bytes whole new : List ℕ) (p : PlainPart) → i < length fields → parts (get_or fields i LinkDst) ≡ Some p → new ≡ p.bytes → IsJoining (values_of parts) (drop i fields) bytes whole → Fits (get_or fields i LinkDst) new bytes
turn_fits parts fields i bytes whole new p below is new_is j =
    joining_fits (values_of parts) (get_or fields i LinkDst) (drop (i + 1) fields) bytes whole new (ap (λ (o : Option PlainPart). option_map (λ q. q.bytes) o) is ∙ ap (λ (v : List ℕ). Some v) (sym new_is)) (subst (λ (fs : List Field). IsJoining (values_of parts) fs bytes whole) (left_at fields i below) j)

-- one turn at a field that is absent
pub turn_stays : (parts : Parts) (fields : List Field) (i : ℕ) (bytes next whole : List ℕ) → i < length fields → parts (get_or fields i LinkDst) ≡ None → next ≡ bytes → IsJoining (values_of parts) (drop i fields) bytes whole → IsJoining (values_of parts) (drop (i + 1) fields) next whole
turn_stays parts fields i bytes next whole below none stays j =
    subst (λ (xs : List ℕ). IsJoining (values_of parts) (drop (i + 1) fields) xs whole) (sym stays) (joining_none (values_of parts) (get_or fields i LinkDst) (drop (i + 1) fields) bytes whole (ap (λ (o : Option PlainPart). option_map (λ q. q.bytes) o) none) (subst (λ (fs : List Field). IsJoining (values_of parts) fs bytes whole) (left_at fields i below) j))

-- every turn was made
pub turns_over : (parts : Parts) (fields : List Field) (i : ℕ) (bytes whole : List ℕ) → length fields ≤ i → IsJoining (values_of parts) (drop i fields) bytes whole → bytes ≡ whole
turns_over parts fields i bytes whole past j =
    joining_over (values_of parts) bytes whole (subst (λ (fs : List Field). IsJoining (values_of parts) fs bytes whole) (drop_of_length-le fields past) j)

-- before the first turn
pub turns_begin : (parts : Parts) (fields : List Field) (bytes : List ℕ) → fields ≡ all_fields → AllFit (values_of parts) bytes → IsJoining (values_of parts) fields bytes (written (values_of parts) bytes)
turns_begin parts fields bytes is fits = record { due = ap (λ (fs : List Field). written_in fs (values_of parts) bytes) is; fits = fits }

written_by_value : (spare writer : ℕ) (o : Option (List ℕ)) → option_map (λ p. p.bytes) (option_map (by_writer writer) (option_map (fresh spare) o)) ≡ o
written_by_value spare writer None = refl
written_by_value spare writer (Some v) = refl

-- the bytes of a part that is in the frame, whoever wrote it
pub within_value : (taggers : ℕ) (frame writers : List ℕ) (f : Field) → option_map (λ p. p.bytes) (parts_within taggers frame writers f) ≡ value f frame
within_value taggers frame writers f = written_by_value (spare_room taggers f) (writer_at writers f) (value f frame)

-- a frame that has every part in it is joined again
pub within_again : (taggers : ℕ) (frame writers : List ℕ) → written (values_of (parts_within taggers frame writers)) (rest_of frame) ≡ frame
within_again taggers frame writers = ap (λ (v : Field → Option (List ℕ)). written v (rest_of frame)) (fun_ext (λ f. within_value taggers frame writers f)) ∙ written-rest frame

-- a part beside the frame has what the packet has
beside_value : (taggers : ℕ) (frame writers : List ℕ) (f : Field) (p : Place) → is_some (part_in taggers frame writers f p) ≡ is_some (value f frame) → option_map (λ q. q.bytes) (part_in taggers frame writers f p) ≡ option_or (option_map (λ q. q.bytes) (beside p)) (value f frame)
beside_value taggers frame writers f Inside there = within_value taggers frame writers f
beside_value taggers frame writers f Gone there = none_there (value f frame) there
  where
    none_there : (o : Option (List ℕ)) → false ≡ is_some o → None ≡ o
    none_there None e = refl
    none_there (Some v) e = absurd (cc)
beside_value taggers frame writers f (Outside part) there = refl

beside_fits : (taggers : ℕ) (frame writers : List ℕ) (f : Field) (p : Place) → IfSome (option_map (λ q. q.bytes) (part_in taggers frame writers f p)) (λ v. Fits f v frame) → IfSome (option_map (λ q. q.bytes) (beside p)) (λ v. Fits f v frame)
beside_fits taggers frame writers f Inside fits = tt
beside_fits taggers frame writers f Gone fits = tt
beside_fits taggers frame writers f (Outside part) fits = fits

pub besides_fit : (taggers : ℕ) (frame writers : List ℕ) (places : List Place) → AllFit (values_of (parts_in taggers frame writers places)) frame → AllFit (values_of (parts_beside places)) frame
besides_fit taggers frame writers places fits f = beside_fits taggers frame writers f (place_of places f) (fits f)

-- it is enough to write what is beside the frame
pub joined_beside : (taggers : ℕ) (frame writers : List ℕ) (places : List Place) → IsWhole (parts_in taggers frame writers places) frame → written (values_of (parts_beside places)) frame ≡ written (values_of (parts_in taggers frame writers places)) (rest_of frame)
joined_beside taggers frame writers places w =
    sym (written-whole (parts_in taggers frame writers places) frame w
    ∙ (ap (λ (v : Field → Option (List ℕ)). written v frame) (fun_ext (λ f. beside_value taggers frame writers f (place_of places f) (w.there f)))
    ∙ (sym (written-written (values_of (parts_beside places)) (fields_of frame) frame (besides_fit taggers frame writers places w.fits) (fields_fit frame))
    ∙ ap (λ (xs : List ℕ). written (values_of (parts_beside places)) xs) (written-own frame))))
