-- What is held of a packet when one of its places is changed.
use Rattle.std.proofs.Common.{◌≡◌, ◌≢◌, ◌∙◌, ◌<◌, ◌+◌, ℕ, Bool, true, false, List, [], ◌∷◌, sym, ap, refl, subst, get_or, length, map, set, arith}
use mathlib.Core.Path.{fun_ext}
use Rattle.std.specs.Prelude.{Option, Some, None, IfSome, is_some, if◌then◌else◌, ◌==◌, option_map}
use Rattle.std.proofs.lemmas.Bool.Decides.{Decides-eqb}
use Rattle.std.proofs.lemmas.List.{get_or_read_under}
use Rattle.std.proofs.Math.ListN.{get_or-map}
use Rattle.packet_fields.specs.Fields.{number_of, value}
use Rattle.packet_fields.specs.Writing.{rest_of, written}
use Rattle.packet_fields.specs.declared.field.Field.{Field}
use Rattle.packet_fields.specs.declared.field.Field.TheVariants.{LinkDst, LinkSrc, Tag, Tos, Ttl, SrcIp, DstIp, SrcPort, DstPort, Payload}
use Rattle.packet_version.specs.Parts.{PlainPart, PlainHeld, Parts, as_map, as_list, changed, unwritten, by_writer, values_of, writer_in}
use Rattle.packet_version.specs.Places.{place_of, part_in, parts_in, parts_within, writer_at, beside, opened, unwritten_place}
use Rattle.packet_version.specs.Splitting.{split_parts, fresh, spare_room, IsWhole}
use Rattle.packet_version.specs.Handing.{with_place}
use Rattle.packet_version.specs.declared.place.Place.{Place}
use Rattle.packet_version.specs.declared.place.Place.TheVariants.{Inside, Gone, Outside}
use Rattle.packet_version.proofs.Maps.{as_map-listed, listed_at}
use Rattle.packet_version.proofs.Placing.{read_set}
use Rattle.packet_version.proofs.DealtByField.{by_field}
use Rattle.packet_version.proofs.Joining.{split_whole, joined_again, within_again}

-- what is held, by its places
abbrev pub held_of : ℕ → List ℕ → List ℕ → List Place → PlainHeld
held_of taggers frame writers places = record { parts = as_list (parts_in taggers frame writers places); frame = frame }

-- the parts of what is held
pub parts_held : (taggers : ℕ) (frame writers : List ℕ) (places : List Place) (old : PlainHeld) → held_of taggers frame writers places ≡ old → as_map old.parts ≡ parts_in taggers frame writers places
parts_held taggers frame writers places old old_is = sym (ap (λ (h : PlainHeld). as_map h.parts) old_is) ∙ as_map-listed (parts_in taggers frame writers places)

-- the place that was read in a field's place
pub place_read : (places : List Place) (n : ℕ) (f : Field) (p : Place) → p ≡ get_or places n p → n ≡ number_of f → n < 10 → length places ≡ 10 → place_of places f ≡ p
place_read places n f p read is below ten = sym (get_or_read_under places n 10 p Inside read below (sym ten) ∙ ap (λ (k : ℕ). get_or places k Inside) is)

-- the part of a field whose place was read
pub part_read : (taggers : ℕ) (frame writers : List ℕ) (places : List Place) (n : ℕ) (f : Field) (p : Place) (old : PlainHeld) → p ≡ get_or places n p → n ≡ number_of f → n < 10 → length places ≡ 10 → held_of taggers frame writers places ≡ old → as_map old.parts f ≡ part_in taggers frame writers f p
part_read taggers frame writers places n f p old read is below ten old_is =
    ap (λ (m : Parts). m f) (parts_held taggers frame writers places old old_is) ∙ ap (λ (q : Place). part_in taggers frame writers f q) (place_read places n f p read is below ten)

-- parts of which only those of one field differ
pub parts_changed : (f : Field) (o : Option PlainPart) (old next : Parts) → next f ≡ o → ((g : Field) → number_of g ≢ number_of f → next g ≡ old g) → next ≡ changed f o old
parts_changed f o old next here others = fun_ext (λ g. by_field f g (next g ≡ changed f o old g)
    (λ same e. ap next (sym same) ∙ (here ∙ sym (ap (λ (b : Bool). if b then o else old g) e)))
    (λ apart e. others g apart ∙ sym (ap (λ (b : Bool). if b then o else old g) e)))

-- what is held when only the part of one field differs
pub held_next : (taggers : ℕ) (frame writers next_writers : List ℕ) (places next : List Place) (f : Field) (o : Option PlainPart) (old : PlainHeld) → parts_in taggers frame next_writers next f ≡ o → ((g : Field) → number_of g ≢ number_of f → parts_in taggers frame next_writers next g ≡ parts_in taggers frame writers places g) → held_of taggers frame writers places ≡ old → held_of taggers frame next_writers next ≡ with_place f o old
held_next taggers frame writers next_writers places next f o old here others old_is =
    ap (λ (m : Parts). let h : PlainHeld = record { parts = as_list m; frame = frame } in h)
    (parts_changed f o (parts_in taggers frame writers places) (parts_in taggers frame next_writers next) here others
    ∙ ap (λ (m : Parts). changed f o m) (sym (as_map-listed (parts_in taggers frame writers places))))
    ∙ ap (λ (h : PlainHeld). with_place f o h) old_is

-- what is read in the place of a field, or of another, after something was put there
pub set_here : {A : Type 0} (xs : List A) (n : ℕ) (f : Field) (x d : A) → n ≡ number_of f → n < length xs → get_or (set xs n x) (number_of f) d ≡ x
set_here {A = A} xs n f x d is below =
    read_set xs n (number_of f) x d below
    ∙ ap (λ (b : Bool). if b then x else get_or xs (number_of f) d) ((Decides-eqb n (number_of f)).1 is)

pub set_other : {A : Type 0} (xs : List A) (n : ℕ) (f g : Field) (x d : A) → n ≡ number_of f → n < length xs → number_of g ≢ number_of f → get_or (set xs n x) (number_of g) d ≡ get_or xs (number_of g) d
set_other {A = A} xs n f g x d is below apart = read_set xs n (number_of g) x d below ∙ by_test (n == number_of g) refl
  where
    by_test : (b : Bool) → (n == number_of g) ≡ b → (if n == number_of g then x else get_or xs (number_of g) d) ≡ get_or xs (number_of g) d
    by_test true e = absurd (apart (sym ((Decides-eqb n (number_of g)).0 e) ∙ is))
    by_test false e = ap (λ (b : Bool). if b then x else get_or xs (number_of g) d) e

-- what is held after another place was put there
pub held_put : (taggers : ℕ) (frame writers : List ℕ) (places : List Place) (n : ℕ) (f : Field) (p : Place) (o : Option PlainPart) (old : PlainHeld) → n ≡ number_of f → n < 10 → length places ≡ 10 → part_in taggers frame writers f p ≡ o → held_of taggers frame writers places ≡ old → held_of taggers frame writers (set places n p) ≡ with_place f o old
held_put taggers frame writers places n f p o old is below ten has old_is =
    let inside : n < length places = omega arith in
    held_next taggers frame writers writers places (set places n p) f o old
    (ap (λ (q : Place). part_in taggers frame writers f q) (set_here places n f p Inside is inside) ∙ has)
    (λ g apart. ap (λ (q : Place). part_in taggers frame writers g q) (set_other places n f g p Inside is inside apart))
    old_is

fresh_unwritten : (spare : ℕ) (writer : ℕ) (o : Option (List ℕ)) → option_map (by_writer 0) (option_map (fresh spare) o) ≡ option_map unwritten (option_map (by_writer writer) (option_map (fresh spare) o))
fresh_unwritten spare writer None = refl
fresh_unwritten spare writer (Some v) = refl

-- a place whose part has no writer
pub place_unwritten : (taggers : ℕ) (frame writers next : List ℕ) (f : Field) (p : Place) → writer_at next f ≡ 0 → part_in taggers frame next f (unwritten_place p) ≡ option_map unwritten (part_in taggers frame writers f p)
place_unwritten taggers frame writers next f Inside none =
    ap (λ (w : ℕ). option_map (by_writer w) (split_parts taggers frame f)) none ∙ fresh_unwritten (spare_room taggers f) (writer_at writers f) (value f frame)
place_unwritten taggers frame writers next f Gone none = refl
place_unwritten taggers frame writers next f (Outside part) none = refl

-- a part whose writer stays
pub same_writer : (taggers : ℕ) (frame writers next : List ℕ) (f : Field) (p : Place) → writer_at next f ≡ writer_at writers f → part_in taggers frame next f p ≡ part_in taggers frame writers f p
same_writer taggers frame writers next f Inside same = ap (λ (w : ℕ). option_map (by_writer w) (split_parts taggers frame f)) same
same_writer taggers frame writers next f Gone same = refl
same_writer taggers frame writers next f (Outside part) same = refl

-- what is held after the writer of a field's part is cleared
pub held_kept : (taggers : ℕ) (frame writers : List ℕ) (places : List Place) (n : ℕ) (f : Field) (p q : Place) (old : PlainHeld) → p ≡ get_or places n p → q ≡ unwritten_place p → n ≡ number_of f → n < 10 → length writers ≡ 10 → length places ≡ 10 → held_of taggers frame writers places ≡ old → held_of taggers frame (set writers n 0) (set places n q) ≡ with_place f (option_map unwritten (as_map old.parts f)) old
held_kept taggers frame writers places n f p q old read none is below all ten old_is =
    let inside : n < length places = omega arith in
    let within : n < length writers = omega arith in
    let next = set writers n 0 in
    held_next taggers frame writers next places (set places n q) f (option_map unwritten (as_map old.parts f)) old
    (ap (λ (r : Place). part_in taggers frame next f r) (set_here places n f q Inside is inside ∙ none)
    ∙ (place_unwritten taggers frame writers next f p (set_here writers n f 0 0 is within)
    ∙ sym (ap (λ (o : Option PlainPart). option_map unwritten o) (part_read taggers frame writers places n f p old read is below ten old_is))))
    (λ g apart. ap (λ (r : Place). part_in taggers frame next g r) (set_other places n f g q Inside is inside apart)
    ∙ same_writer taggers frame writers next g (place_of places g) (set_other writers n f g 0 0 is within apart))
    old_is

by_nobody : (spare : ℕ) (o : Option (List ℕ)) → option_map (by_writer 0) (option_map (fresh spare) o) ≡ option_map (fresh spare) o
by_nobody spare None = refl
by_nobody spare (Some v) = refl

-- a frame whose parts have no writer
pub within_unwritten : (taggers : ℕ) (frame writers : List ℕ) → ((f : Field) → writer_at writers f ≡ 0) → parts_within taggers frame writers ≡ split_parts taggers frame
within_unwritten taggers frame writers none = fun_ext (λ f. ap (λ (w : ℕ). option_map (by_writer w) (split_parts taggers frame f)) (none f) ∙ by_nobody (spare_room taggers f) (value f frame))

-- no part has a writer
abbrev pub no_writers : List ℕ
no_writers = 0 ∷ 0 ∷ 0 ∷ 0 ∷ 0 ∷ 0 ∷ 0 ∷ 0 ∷ 0 ∷ 0 ∷ []

pub nobody_wrote : (f : Field) → writer_at no_writers f ≡ 0
nobody_wrote LinkDst = refl
nobody_wrote LinkSrc = refl
nobody_wrote Tag = refl
nobody_wrote Tos = refl
nobody_wrote Ttl = refl
nobody_wrote SrcIp = refl
nobody_wrote DstIp = refl
nobody_wrote SrcPort = refl
nobody_wrote DstPort = refl
nobody_wrote Payload = refl

fresh_room : (spare writer : ℕ) (o : Option (List ℕ)) → IfSome (option_map (by_writer writer) (option_map (fresh spare) o)) (λ p. p.room ≡ length p.bytes + spare)
fresh_room spare writer None = tt
fresh_room spare writer (Some v) = refl

pub inside_room : (taggers : ℕ) (frame writers : List ℕ) (f : Field) → IfSome (parts_within taggers frame writers f) (λ p. p.room ≡ length p.bytes + spare_room taggers f)
inside_room taggers frame writers f = fresh_room (spare_room taggers f) (writer_at writers f) (value f frame)

-- a place that isn't beside the frame
pub not_beside : (p : Place) → ((part : PlainPart) → p ≢ Outside part) → beside p ≡ None
not_beside Inside other = refl
not_beside Gone other = refl
not_beside (Outside part) other = absurd (other part refl)

-- a frame with every part in it is whole
pub inside_parts : (taggers : ℕ) (frame : List ℕ) (held : PlainHeld) → held ≡ record { parts = as_list (split_parts taggers frame); frame = frame } → as_map held.parts ≡ split_parts taggers frame
inside_parts taggers frame held is = ap (λ (h : PlainHeld). as_map h.parts) is ∙ as_map-listed (split_parts taggers frame)

pub inside_whole : (taggers : ℕ) (frame : List ℕ) (held : PlainHeld) → held ≡ record { parts = as_list (split_parts taggers frame); frame = frame } → IsWhole (as_map held.parts) held.frame
inside_whole taggers frame held is =
    subst (λ (xs : List ℕ). IsWhole (as_map held.parts) xs) (sym (ap (λ (h : PlainHeld). h.frame) is)) (subst (λ (m : Parts). IsWhole m frame) (sym (inside_parts taggers frame held is)) (split_whole taggers frame))

pub inside_again : (taggers : ℕ) (frame : List ℕ) (held : PlainHeld) → held ≡ record { parts = as_list (split_parts taggers frame); frame = frame } → written (values_of (as_map held.parts)) (rest_of held.frame) ≡ frame
inside_again taggers frame held is =
    ap (λ (xs : List ℕ). written (values_of (as_map held.parts)) (rest_of xs)) (ap (λ (h : PlainHeld). h.frame) is)
    ∙ (ap (λ (m : Parts). written (values_of m) (rest_of frame)) (inside_parts taggers frame held is) ∙ joined_again taggers frame)

-- if no place is listed, every part is in the frame
nowhere : (f : Field) → place_of [] f ≡ Inside
nowhere LinkDst = refl
nowhere LinkSrc = refl
nowhere Tag = refl
nowhere Tos = refl
nowhere Ttl = refl
nowhere SrcIp = refl
nowhere DstIp = refl
nowhere SrcPort = refl
nowhere DstPort = refl
nowhere Payload = refl

pub closed_place : (places : List Place) (f : Field) → length places ≡ 0 → place_of places f ≡ Inside
closed_place [] f none = nowhere f
closed_place (p ∷ ps) f none = absurd (omega arith)

pub closed_parts : (taggers : ℕ) (frame writers : List ℕ) (places : List Place) → length places ≡ 0 → parts_in taggers frame writers places ≡ parts_within taggers frame writers
closed_parts taggers frame writers places none = fun_ext (λ f. ap (λ (p : Place). part_in taggers frame writers f p) (closed_place places f none))

-- the part of a field if no place is listed
pub closed_part : (taggers : ℕ) (frame writers : List ℕ) (places : List Place) (f : Field) (old : PlainHeld) → length places ≡ 0 → held_of taggers frame writers places ≡ old → as_map old.parts f ≡ parts_within taggers frame writers f
closed_part taggers frame writers places f old none old_is =
    ap (λ (m : Parts). m f) (parts_held taggers frame writers places old old_is ∙ closed_parts taggers frame writers places none)

-- what is held if no part has a writer, and no place is listed
pub new_held : (taggers : ℕ) (frame writers : List ℕ) (places : List Place) → length places ≡ 0 → writers ≡ no_writers → held_of taggers frame writers places ≡ record { parts = as_list (split_parts taggers frame); frame = frame }
new_held taggers frame writers places none is =
    ap (λ (m : Parts). let h : PlainHeld = record { parts = as_list m; frame = frame } in h)
    (closed_parts taggers frame writers places none ∙ within_unwritten taggers frame writers (λ f. ap (λ (ws : List ℕ). writer_at ws f) is ∙ nobody_wrote f))

-- if no part has a writer, and no place is listed, each part in the frame has none
pub closed_unwritten : (taggers : ℕ) (frame writers : List ℕ) (places : List Place) (f : Field) (old : PlainHeld) → length places ≡ 0 → writers ≡ no_writers → held_of taggers frame writers places ≡ old → option_map unwritten (as_map old.parts f) ≡ as_map old.parts f
closed_unwritten taggers frame writers places f old none is old_is =
    let read = closed_part taggers frame writers places f old none old_is in
    let nobody : writer_at writers f ≡ 0 = ap (λ (ws : List ℕ). writer_at ws f) is ∙ nobody_wrote f in
    ap (λ (o : Option PlainPart). option_map unwritten o) read
    ∙ (sym (place_unwritten taggers frame writers writers f Inside nobody) ∙ sym read)

-- a frame that has every part in it is joined again
pub closed_again : (taggers : ℕ) (frame writers : List ℕ) (places : List Place) (old : PlainHeld) → length places ≡ 0 → held_of taggers frame writers places ≡ old → written (values_of (as_map old.parts)) (rest_of old.frame) ≡ frame
closed_again taggers frame writers places old none old_is =
    ap (λ (xs : List ℕ). written (values_of (as_map old.parts)) (rest_of xs)) (sym (ap (λ (h : PlainHeld). h.frame) old_is))
    ∙ (ap (λ (m : Parts). written (values_of m) (rest_of frame)) (parts_held taggers frame writers places old old_is ∙ closed_parts taggers frame writers places none) ∙ within_again taggers frame writers)

-- also after the writer of a field's part is cleared
pub closed_keeps : (taggers : ℕ) (frame writers : List ℕ) (places : List Place) (n : ℕ) (f : Field) (old : PlainHeld) → length places ≡ 0 → n ≡ number_of f → n < 10 → length writers ≡ 10 → held_of taggers frame writers places ≡ old → held_of taggers frame (set writers n 0) places ≡ with_place f (option_map unwritten (as_map old.parts f)) old
closed_keeps taggers frame writers places n f old none is below all old_is =
    let within : n < length writers = omega arith in
    let next = set writers n 0 in
    held_next taggers frame writers next places places f (option_map unwritten (as_map old.parts f)) old
    (ap (λ (q : Place). part_in taggers frame next f q) (closed_place places f none)
    ∙ (place_unwritten taggers frame writers next f Inside (set_here writers n f 0 0 is within)
    ∙ sym (ap (λ (o : Option PlainPart). option_map unwritten o) (closed_part taggers frame writers places f old none old_is))))
    (λ g apart. same_writer taggers frame writers next g (place_of places g) (set_other writers n f g 0 0 is within apart))
    old_is

-- a place for each field says the same
pub opened_place : (places : List Place) (f : Field) → place_of (opened places) f ≡ place_of places f
opened_place [] f = listed_at (λ g. Inside) Inside f ∙ sym (nowhere f)
opened_place (p ∷ ps) f = refl

opened_parts : (taggers : ℕ) (frame writers : List ℕ) (places : List Place) → parts_in taggers frame writers (opened places) ≡ parts_in taggers frame writers places
opened_parts taggers frame writers places = fun_ext (λ f. ap (λ (p : Place). part_in taggers frame writers f p) (opened_place places f))

pub opened_held : (taggers : ℕ) (frame writers : List ℕ) (places next : List Place) (old : PlainHeld) → next ≡ opened places → held_of taggers frame writers places ≡ old → held_of taggers frame writers next ≡ old
opened_held taggers frame writers places next old is old_is =
    ap (λ (ps : List Place). held_of taggers frame writers ps) is ∙ (ap (λ (m : Parts). let h : PlainHeld = record { parts = as_list m; frame = frame } in h) (opened_parts taggers frame writers places) ∙ old_is)

-- what is held after all writers are cleared
pub held_forgotten : (taggers : ℕ) (frame writers : List ℕ) (places : List Place) (old : PlainHeld) → held_of taggers frame writers places ≡ old → held_of taggers frame no_writers (map unwritten_place places) ≡ record old { parts = as_list (λ f. option_map unwritten (as_map old.parts f)) }
held_forgotten taggers frame writers places old old_is =
    ap (λ (m : Parts). let h : PlainHeld = record { parts = as_list m; frame = frame } in h)
    (fun_ext (λ f.
    ap (λ (p : Place). part_in taggers frame no_writers f p) (get_or-map unwritten_place places (number_of f) Inside)
    ∙ (place_unwritten taggers frame writers no_writers f (place_of places f) (nobody_wrote f)
    ∙ sym (ap (λ (m : Parts). option_map unwritten (m f)) (as_map-listed (parts_in taggers frame writers places))))))
    ∙ ap (λ (h : PlainHeld). let next : PlainHeld = record h { parts = as_list (λ f. option_map unwritten (as_map h.parts f)) } in next) old_is

some_writer : (spare writer : ℕ) (o : Option (List ℕ)) → writer_in (option_map (by_writer writer) (option_map (fresh spare) o)) ≡ (if is_some o then writer else 0)
some_writer spare writer None = refl
some_writer spare writer (Some v) = refl

-- the writer of a part that is in the frame
pub within_writer : (taggers : ℕ) (frame writers : List ℕ) (f : Field) → writer_in (parts_within taggers frame writers f) ≡ (if is_some (value f frame) then writer_at writers f else 0)
within_writer taggers frame writers f = some_writer (spare_room taggers f) (writer_at writers f) (value f frame)

pub within_read : (taggers : ℕ) (frame writers : List ℕ) (n r : ℕ) (f : Field) → r ≡ (if is_some (value f frame) then get_or writers n 0 else 0) → n ≡ number_of f → r ≡ writer_in (parts_within taggers frame writers f)
within_read taggers frame writers n r f read is =
    read ∙ (ap (λ (k : ℕ). if is_some (value f frame) then get_or writers k 0 else 0) is ∙ sym (within_writer taggers frame writers f))

-- whether a place is listed
pub is_closed : (places : List Place) (b : Bool) → b ≡ (length places == 0) → b ≡ true → length places ≡ 0
is_closed places b is e = (Decides-eqb (length places) 0).0 (sym is ∙ e)

pub is_listed : (places : List Place) (b : Bool) → b ≡ (length places == 0) → b ≡ false → length places ≢ 0
is_listed places b is e = λ none. (let t : (length places == 0) ≡ true = (Decides-eqb (length places) 0).1 none in let f : (length places == 0) ≡ false = sym is ∙ e in cc)

-- if some place is listed, there is one for each field
pub listed_ten : (places : List Place) → length places ≢ 0 → length (opened places) ≡ 10 → length places ≡ 10
listed_ten [] some ten = absurd (some refl)
listed_ten (p ∷ ps) some ten = ten
