-- A part that is taken out of its frame, and lent.
use Rattle.std.proofs.Common.{◌≡◌, ◌≢◌, ◌∙◌, ◌<◌, ℕ, true, List, sym, ap, refl, subst, get_or, length, set, arith}
use Rattle.std.specs.Prelude.{Option, Some, None, IfSome, IsSome, option_map}
use Rattle.std.proofs.lemmas.Bool.{false≢true}
use Rattle.std.proofs.lemmas.List.{get_or-set_same, length-set}
use Rattle.packet_fields.specs.Fields.{number_of, value}
use Rattle.packet_fields.specs.declared.field.Field.{Field}
use Rattle.packet_fields.specs.declared.field.Field.TheVariants.{LinkDst, LinkSrc, Tag, Tos, Ttl, SrcIp, DstIp, SrcPort, DstPort, Payload}
use Rattle.packet_version.specs.Parts.{PlainPart, PlainHeld, as_map, by_writer}
use Rattle.packet_version.specs.Places.{part_in, writer_at, beside, is_outside, brought, place_made}
use Rattle.packet_version.specs.Splitting.{fresh, spare_room}
use Rattle.packet_version.specs.Lending.{edited, edited_place, left_there}
use Rattle.packet_version.specs.declared.place.Place.{Place}
use Rattle.packet_version.specs.declared.place.Place.TheVariants.{Inside, Gone, Outside}
use Rattle.packet_version.proofs.Keeping.{held_of, held_next, part_read, set_here, set_other}

-- only the tags have room for more
no_spare : (taggers : ℕ) (f : Field) → f ≢ Tag → spare_room taggers f ≡ 0
no_spare taggers Tag other = absurd (other refl)
no_spare taggers LinkDst other = refl
no_spare taggers LinkSrc other = refl
no_spare taggers Tos other = refl
no_spare taggers Ttl other = refl
no_spare taggers SrcIp other = refl
no_spare taggers DstIp other = refl
no_spare taggers SrcPort other = refl
no_spare taggers DstPort other = refl
no_spare taggers Payload other = refl

made_part : (taggers : ℕ) (frame writers : List ℕ) (f : Field) (w : ℕ) (o : Option (List ℕ)) → f ≢ Tag → w ≡ writer_at writers f → o ≡ value f frame → part_in taggers frame writers f (place_made (option_map (by_writer w) (option_map (fresh 0) o))) ≡ option_map (by_writer (writer_at writers f)) (option_map (fresh (spare_room taggers f)) (value f frame))
made_part taggers frame writers f w None other is same = refl
made_part taggers frame writers f w (Some v) other is same =
    ap (λ (n : ℕ). option_map (by_writer n) (option_map (fresh 0) (Some v))) is
    ∙ (ap (λ (spare : ℕ). option_map (by_writer (writer_at writers f)) (option_map (fresh spare) (Some v))) (sym (no_spare taggers f other))
    ∙ ap (λ (o : Option (List ℕ)). option_map (by_writer (writer_at writers f)) (option_map (fresh (spare_room taggers f)) o)) same)

-- a part that is taken out of its frame stays the same
pub brought_part : (taggers : ℕ) (frame writers : List ℕ) (f : Field) (w : ℕ) (p : Place) → f ≢ Tag → w ≡ writer_at writers f → part_in taggers frame writers f (brought frame w f p) ≡ part_in taggers frame writers f p
brought_part taggers frame writers f w Inside other is = made_part taggers frame writers f w (value f frame) other is refl
brought_part taggers frame writers f w Gone other is = refl
brought_part taggers frame writers f w (Outside part) other is = refl

made_outside : (spare w v : ℕ) (o : Option (List ℕ)) → IsSome (option_map (by_writer v) (option_map (fresh spare) o)) → is_outside (place_made (option_map (by_writer w) (option_map (fresh 0) o))) ≡ true
made_outside spare w v None some = absurd (false≢true some)
made_outside spare w v (Some bytes) some = refl

-- and is beside it
pub brought_outside : (taggers : ℕ) (frame writers : List ℕ) (f : Field) (w : ℕ) (p : Place) → IsSome (part_in taggers frame writers f p) → is_outside (brought frame w f p) ≡ true
brought_outside taggers frame writers f w Inside some = made_outside (spare_room taggers f) w (writer_at writers f) (value f frame) some
brought_outside taggers frame writers f w Gone some = absurd (false≢true some)
brought_outside taggers frame writers f w (Outside part) some = refl

edited_in : (taggers : ℕ) (frame writers : List ℕ) (f : Field) (new : List ℕ) (w : ℕ) (p : Place) → is_outside p ≡ true → part_in taggers frame writers f (edited_place new w p) ≡ option_map (edited new w) (part_in taggers frame writers f p)
edited_in taggers frame writers f new w Inside is = absurd (false≢true is)
edited_in taggers frame writers f new w Gone is = refl
edited_in taggers frame writers f new w (Outside part) is = refl

lent_bytes : (taggers : ℕ) (frame writers : List ℕ) (f : Field) (lent : List ℕ) (p : Place) → is_outside p ≡ true → IfSome (beside p) (λ q. lent ≡ q.bytes) → option_map (λ q. q.bytes) (part_in taggers frame writers f p) ≡ Some lent
lent_bytes taggers frame writers f lent Inside is same = absurd (false≢true is)
lent_bytes taggers frame writers f lent Gone is same = absurd (false≢true is)
lent_bytes taggers frame writers f lent (Outside part) is same = ap (λ (v : List ℕ). Some v) (sym same)

-- A part that was taken out of its frame and read again, with its field, its writer and its places.
pub record IsBrought (taggers : ℕ) (frame writers : List ℕ) (places : List Place) (n w : ℕ) (f : Field) (p out again : Place) (old : PlainHeld) : Type 0 where
  pub other : f ≢ Tag
  pub number : n ≡ number_of f
  pub below : n < 10
  pub ten : length places ≡ 10
  pub writer : w ≡ writer_at writers f
  pub read : p ≡ get_or places n p
  pub out_is : out ≡ brought frame w f p
  pub again_is : again ≡ get_or (set places n out) n again
  pub old_is : held_of taggers frame writers places ≡ old
  pub present : IsSome (as_map old.parts f)

pub out_again : {taggers : ℕ} {frame writers : List ℕ} {places : List Place} {n w : ℕ} {f : Field} {p out again : Place} {old : PlainHeld} → IsBrought taggers frame writers places n w f p out again old → again ≡ out
out_again {places = places} {n = n} {out = out} {again = again} b =
    let ten = b.ten in
    let below = b.below in
    b.again_is ∙ get_or-set_same places n out again (omega arith)

here_is : {taggers : ℕ} {frame writers : List ℕ} {places : List Place} {n w : ℕ} {f : Field} {p out again : Place} {old : PlainHeld} → IsBrought taggers frame writers places n w f p out again old → as_map old.parts f ≡ part_in taggers frame writers f again
here_is {taggers = taggers} {frame = frame} {writers = writers} {places = places} {n = n} {w = w} {f = f} {p = p} {out = out} {again = again} {old = old} b =
    part_read taggers frame writers places n f p old b.read b.number b.below b.ten b.old_is
    ∙ (sym (brought_part taggers frame writers f w p b.other b.writer) ∙ sym (ap (λ (q : Place). part_in taggers frame writers f q) (out_again b ∙ b.out_is)))

pub is_beside : {taggers : ℕ} {frame writers : List ℕ} {places : List Place} {n w : ℕ} {f : Field} {p out again : Place} {old : PlainHeld} → IsBrought taggers frame writers places n w f p out again old → is_outside again ≡ true
is_beside {taggers = taggers} {frame = frame} {writers = writers} {places = places} {n = n} {w = w} {f = f} {p = p} {out = out} {again = again} {old = old} b =
    ap is_outside (out_again b ∙ b.out_is)
    ∙ brought_outside taggers frame writers f w p (subst (λ (o : Option PlainPart). IsSome o) (part_read taggers frame writers places n f p old b.read b.number b.below b.ten b.old_is) b.present)

-- the bytes that are lent
pub lent_are : {taggers : ℕ} {frame writers : List ℕ} {places : List Place} {n w : ℕ} {f : Field} {p out again : Place} {old : PlainHeld} (lent : List ℕ) → IsBrought taggers frame writers places n w f p out again old → IfSome (beside again) (λ q. lent ≡ q.bytes) → option_map (λ q. q.bytes) (as_map old.parts f) ≡ Some lent
lent_are {taggers = taggers} {frame = frame} {writers = writers} {f = f} {again = again} lent b same =
    ap (λ (o : Option PlainPart). option_map (λ q. q.bytes) o) (here_is b) ∙ lent_bytes taggers frame writers f lent again (is_beside b) same

-- what is held after other bytes were left there
pub held_left : {taggers : ℕ} {frame writers : List ℕ} {places : List Place} {n w : ℕ} {f : Field} {p out again : Place} {old : PlainHeld} (new : List ℕ) (by : ℕ) → IsBrought taggers frame writers places n w f p out again old → held_of taggers frame writers (set (set places n out) n (edited_place new by again)) ≡ left_there f new by old
held_left {taggers = taggers} {frame = frame} {writers = writers} {places = places} {n = n} {f = f} {out = out} {again = again} {old = old} new by b =
    let ten = b.ten in
    let below = b.below in
    let inside : n < length places = omega arith in
    let len = length-set places n out in
    let within : n < length (set places n out) = omega arith in
    let last = edited_place new by again in
    held_next taggers frame writers writers places (set (set places n out) n last) f (option_map (edited new by) (as_map old.parts f)) old
    (ap (λ (q : Place). part_in taggers frame writers f q) (set_here (set places n out) n f last Inside b.number within)
    ∙ (edited_in taggers frame writers f new by again (is_beside b) ∙ sym (ap (λ (o : Option PlainPart). option_map (edited new by) o) (here_is b))))
    (λ g apart. ap (λ (q : Place). part_in taggers frame writers g q) (set_other (set places n out) n f g last Inside b.number within apart ∙ set_other places n f g out Inside b.number inside apart))
    b.old_is
