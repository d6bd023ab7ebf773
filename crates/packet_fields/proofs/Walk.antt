-- Laws of frames in which many fields are written.
use Rattle.std.proofs.Common.{◌≡◌, ◌≢◌, ◌∙◌, ℕ, List, [], ◌∷◌, length, take, replicate, true, sym, ap, refl, subst, ⊎_elim, ◌⊎◌, inl, inr}
use Rattle.std.specs.Prelude.{Option, Some, None, IfSome, ⊤, IsSome, IsSomeAnd, option_map, is_some}
use Rattle.std.specs.Option.{option_or}
use Rattle.std.proofs.lemmas.Bool.{false≢true}
use Rattle.std.proofs.lemmas.Option.{same_Some}
use Rattle.std.proofs.lemmas.List.{length-replicate}
use Rattle.packet_fields.specs.Frames.{is_tag_list, tags_of, packet}
use Rattle.packet_fields.specs.Fields.{value}
use Rattle.packet_fields.specs.Writing.{put, Fits, put_some, written_in, written, all_fields, AllFit, fields_of, over, blank, rest_of}
use Rattle.packet_fields.specs.declared.field.Field.{Field}
use Rattle.packet_fields.specs.declared.field.Field.TheVariants.{LinkDst, LinkSrc, Tag, Tos, Ttl, SrcIp, DstIp, SrcPort, DstPort, Payload}
use Rattle.packet_fields.proofs.Numbers.{same_field}
use Rattle.packet_fields.proofs.Framing.{framed}
use Rattle.packet_fields.proofs.Puts.{value-put_own, value-put_other, long_from_tags, value-parts, own_parts}
use Rattle.packet_fields.proofs.Laws.{fits-put_other, fits-put_own, put-put_own, put-put_other, put_own}

abbrev pub IsIn : Field → List Field → Type 0
IsIn f [] = ⊥
IsIn f (g ∷ gs) = (f ≡ g) ⊎ IsIn f gs

abbrev pub IsNotIn : Field → List Field → Type 0
IsNotIn f [] = ⊤
IsNotIn f (g ∷ gs) = (f ≢ g) × IsNotIn f gs

abbrev pub IsDistinct : List Field → Type 0
IsDistinct [] = ⊤
IsDistinct (f ∷ fs) = IsNotIn f fs × IsDistinct fs

differs : (f g : Field) (gs : List Field) → IsNotIn g gs → IsIn f gs → f ≢ g
differs f g [] not_in is_in e = is_in
differs f g (h ∷ hs) not_in (inl is) e = not_in.0 (sym e ∙ is)
differs f g (h ∷ hs) not_in (inr is_in) e = differs f g hs not_in.1 is_in e

is_in_all : (f : Field) → IsIn f all_fields
is_in_all LinkDst = inl refl
is_in_all LinkSrc = inr (inl refl)
is_in_all Tag = inr (inr (inl refl))
is_in_all Tos = inr (inr (inr (inl refl)))
is_in_all Ttl = inr (inr (inr (inr (inl refl))))
is_in_all SrcIp = inr (inr (inr (inr (inr (inl refl)))))
is_in_all DstIp = inr (inr (inr (inr (inr (inr (inl refl))))))
is_in_all SrcPort = inr (inr (inr (inr (inr (inr (inr (inl refl)))))))
is_in_all DstPort = inr (inr (inr (inr (inr (inr (inr (inr (inl refl))))))))
is_in_all Payload = inr (inr (inr (inr (inr (inr (inr (inr (inr (inl refl)))))))))

all_distinct : IsDistinct all_fields
all_distinct = ((λ e. cc, (λ e. cc, (λ e. cc, (λ e. cc, (λ e. cc, (λ e. cc, (λ e. cc, (λ e. cc, (λ e. cc, tt))))))))), ((λ e. cc, (λ e. cc, (λ e. cc, (λ e. cc, (λ e. cc, (λ e. cc, (λ e. cc, (λ e. cc, tt)))))))), ((λ e. cc, (λ e. cc, (λ e. cc, (λ e. cc, (λ e. cc, (λ e. cc, (λ e. cc, tt))))))), ((λ e. cc, (λ e. cc, (λ e. cc, (λ e. cc, (λ e. cc, (λ e. cc, tt)))))), ((λ e. cc, (λ e. cc, (λ e. cc, (λ e. cc, (λ e. cc, tt))))), ((λ e. cc, (λ e. cc, (λ e. cc, (λ e. cc, tt)))), ((λ e. cc, (λ e. cc, (λ e. cc, tt))), ((λ e. cc, (λ e. cc, tt)), ((λ e. cc, tt), (tt, tt))))))))))

fits_same : (f g : Field) (new other frame : List ℕ) → f ≡ g → Fits g other frame → Fits f new frame → Fits f new (put g other frame)
fits_same f g new other frame same fits_g fits =
    subst (λ (h : Field). Fits f new (put h other frame)) same (fits-put_own f new other frame fits (subst (λ (h : Field). Fits h other frame) (sym same) fits_g))

fits_after : (f g : Field) (new other frame : List ℕ) → Fits g other frame → Fits f new frame → Fits f new (put g other frame)
fits_after f g new other frame fits_g fits =
    ⊎_elim
    (λ (same : f ≡ g). fits_same f g new other frame same fits_g fits)
    (λ (differ : f ≢ g). fits-put_other f g new other frame (λ e. differ (sym e)) fits_g fits)
    (same_field f g)

-- one optional value fits
abbrev pub FitsSome : Field → Option (List ℕ) → List ℕ → Type 0
FitsSome f o frame = IfSome o (λ new. Fits f new frame)

fits_some_after : (f g : Field) (o p : Option (List ℕ)) (frame : List ℕ) → FitsSome g p frame → FitsSome f o frame → FitsSome f o (put_some g p frame)
fits_some_after f g None p frame fits_g fits = tt
fits_some_after f g (Some new) None frame fits_g fits = fits
fits_some_after f g (Some new) (Some other) frame fits_g fits = fits_after f g new other frame fits_g fits

pub all_fit_after : (values : Field → Option (List ℕ)) (g : Field) (p : Option (List ℕ)) (frame : List ℕ) → FitsSome g p frame → AllFit values frame → AllFit values (put_some g p frame)
all_fit_after values g p frame fits_g fits = λ f. fits_some_after f g (values f) p frame fits_g (fits f)

value_some_other : (f g : Field) (p : Option (List ℕ)) (frame : List ℕ) → f ≢ g → FitsSome g p frame → value f (put_some g p frame) ≡ value f frame
value_some_other f g None frame differ fits = refl
value_some_other f g (Some other) frame differ fits = value-put_other g f other frame (λ e. differ (sym e)) fits

value_some_own : (g : Field) (p : Option (List ℕ)) (frame : List ℕ) → FitsSome g p frame → value g (put_some g p frame) ≡ option_or p (value g frame)
value_some_own g None frame fits = refl
value_some_own g (Some other) frame fits = value-put_own g other frame fits

values_out : (fs : List Field) (f : Field) (values : Field → Option (List ℕ)) (frame : List ℕ) → IsNotIn f fs → AllFit values frame → value f (written_in fs values frame) ≡ value f frame
unfolding written_in
values_out [] f values frame not_in fits = refl
values_out (g ∷ gs) f values frame not_in fits =
    values_out gs f values (put_some g (values g) frame) not_in.1 (all_fit_after values g (values g) frame (fits g) fits) ∙ value_some_other f g (values g) frame not_in.0 (fits g)

values_in : (fs : List Field) (f : Field) (values : Field → Option (List ℕ)) (frame : List ℕ) → IsDistinct fs → IsIn f fs → AllFit values frame → value f (written_in fs values frame) ≡ option_or (values f) (value f frame)
unfolding written_in
values_in [] f values frame distinct is_in fits = absurd is_in
values_in (g ∷ gs) f values frame distinct (inl is) fits =
    let not_in : IsNotIn f gs = subst (λ (h : Field). IsNotIn h gs) (sym is) distinct.0 in
    values_out gs f values (put_some g (values g) frame) not_in (all_fit_after values g (values g) frame (fits g) fits)
    ∙ subst (λ (h : Field). value h (put_some g (values g) frame) ≡ option_or (values h) (value h frame)) (sym is) (value_some_own g (values g) frame (fits g))
values_in (g ∷ gs) f values frame distinct (inr is_in) fits =
    values_in gs f values (put_some g (values g) frame) distinct.1 is_in (all_fit_after values g (values g) frame (fits g) fits)
    ∙ ap (λ (o : Option (List ℕ)). option_or (values f) o) (value_some_other f g (values g) frame (differs f g gs distinct.0 is_in) (fits g))

some_comm : (f g : Field) (o p : Option (List ℕ)) (frame : List ℕ) → f ≢ g → FitsSome f o frame → FitsSome g p frame → put_some f o (put_some g p frame) ≡ put_some g p (put_some f o frame)
some_comm f g None p frame differ fits fits_g = refl
some_comm f g (Some new) None frame differ fits fits_g = refl
some_comm f g (Some new) (Some other) frame differ fits fits_g = put-put_other f g new other frame differ fits fits_g

some_twice : (g : Field) (o p : Option (List ℕ)) (frame : List ℕ) → FitsSome g o frame → FitsSome g p frame → put_some g o (put_some g p frame) ≡ put_some g (option_or o p) frame
some_twice g None p frame fits fits_p = refl
some_twice g (Some new) None frame fits fits_p = refl
some_twice g (Some new) (Some old) frame fits fits_p = put-put_own g new old frame fits fits_p

some_or : (g : Field) (o p : Option (List ℕ)) (frame : List ℕ) → FitsSome g o frame → FitsSome g p frame → FitsSome g (option_or o p) frame
some_or g None p frame fits fits_p = fits_p
some_or g (Some new) p frame fits fits_p = fits

comm_in : (fs : List Field) (g : Field) (o : Option (List ℕ)) (values : Field → Option (List ℕ)) (frame : List ℕ) → IsNotIn g fs → FitsSome g o frame → AllFit values frame → put_some g o (written_in fs values frame) ≡ written_in fs values (put_some g o frame)
unfolding written_in
comm_in [] g o values frame not_in fits all = refl
comm_in (h ∷ hs) g o values frame not_in fits all =
    comm_in hs g o values (put_some h (values h) frame) not_in.1 (fits_some_after g h o (values h) frame (all h) fits) (all_fit_after values h (values h) frame (all h) all)
    ∙ ap (λ (xs : List ℕ). written_in hs values xs) (some_comm g h o (values h) frame not_in.0 fits (all h))

twice_in : (fs : List Field) (new old : Field → Option (List ℕ)) (frame : List ℕ) → IsDistinct fs → AllFit new frame → AllFit old frame → written_in fs new (written_in fs old frame) ≡ written_in fs (over new old) frame
unfolding written_in
twice_in [] new old frame distinct fits fits_old = refl
twice_in (g ∷ gs) new old frame distinct fits fits_old =
    let once = put_some g (old g) frame in
    let both = put_some g (option_or (new g) (old g)) frame in
    let old_once = all_fit_after old g (old g) frame (fits_old g) fits_old in
    let or_fits = some_or g (new g) (old g) frame (fits g) (fits_old g) in
    ap (λ (xs : List ℕ). written_in gs new xs) (comm_in gs g (new g) old once distinct.0 (fits_some_after g g (new g) (old g) frame (fits_old g) (fits g)) old_once ∙ ap (λ (xs : List ℕ). written_in gs old xs) (some_twice g (new g) (old g) frame (fits g) (fits_old g)))
    ∙ twice_in gs new old both distinct.1 (all_fit_after new g (option_or (new g) (old g)) frame or_fits fits) (all_fit_after old g (option_or (new g) (old g)) frame or_fits fits_old)

some_own : (g : Field) (o : Option (List ℕ)) (frame : List ℕ) → o ≡ value g frame → put_some g o frame ≡ frame
some_own g None frame is = refl
some_own g (Some old) frame is = put_own g frame old (sym is)

own_in : (fs : List Field) (values : Field → Option (List ℕ)) (frame : List ℕ) → ((f : Field) → values f ≡ value f frame) → written_in fs values frame ≡ frame
unfolding written_in
own_in [] values frame same = refl
own_in (g ∷ gs) values frame same = ap (λ (xs : List ℕ). written_in gs values xs) (some_own g (values g) frame (same g)) ∙ own_in gs values frame same

same_in : (fs : List Field) (values others : Field → Option (List ℕ)) (frame : List ℕ) → ((f : Field) → values f ≡ others f) → written_in fs values frame ≡ written_in fs others frame
unfolding written_in
same_in [] values others frame same = refl
same_in (g ∷ gs) values others frame same = ap (λ (o : Option (List ℕ)). written_in gs values (put_some g o frame)) (same g) ∙ same_in gs values others (put_some g (others g) frame) same

-- the fields of a frame after writes are the new values over the old
pub value-written : (values : Field → Option (List ℕ)) (frame : List ℕ) → AllFit values frame → (f : Field) → value f (written values frame) ≡ over values (fields_of frame) f
value-written values frame fits f = values_in all_fields f values frame all_distinct (is_in_all f) fits

-- writing twice is writing once, with the later values over the earlier
pub written-written : (new old : Field → Option (List ℕ)) (frame : List ℕ) → AllFit new frame → AllFit old frame → written new (written old frame) ≡ written (over new old) frame
written-written new old frame fits fits_old = twice_in all_fields new old frame all_distinct fits fits_old

-- writing a frame's own fields changes nothing
pub written-own : (frame : List ℕ) → written (fields_of frame) frame ≡ frame
written-own frame = own_in all_fields (fields_of frame) frame (λ f. refl)

tags_fit : (frame : List ℕ) (o : Option (List ℕ)) → value Tag frame ≡ o → FitsSome Tag o frame
tags_fit frame None is = tt
tags_fit frame (Some tags) is =
    let there : IsSome (value Tag frame) = ap (λ (o : Option (List ℕ)). is_some o) is in
    let long = long_from_tags frame there in
    let is_own : tags_of frame ≡ tags = same_Some (tags_of frame) tags (sym (value-parts Tag (take 12 frame) (tags_of frame) (packet frame) frame (own_parts frame long)) ∙ is) in
    (there, subst (λ (t : List ℕ). is_tag_list t ≡ true) is_own (framed frame long).whole_tags)

bytes_fit : (o : Option (List ℕ)) → IfSome o (λ new. IsSomeAnd o (λ old. length new ≡ length old))
bytes_fit None = tt
bytes_fit (Some old) = refl

blank_tags_fit : (frame : List ℕ) (o : Option (List ℕ)) → value Tag frame ≡ o → FitsSome Tag (option_map (blank Tag) o) frame
unfolding is_tag_list
blank_tags_fit frame None is = tt
blank_tags_fit frame (Some tags) is = (ap (λ (o : Option (List ℕ)). is_some o) is, refl)

abbrev zeros : List ℕ → List ℕ
zeros bytes = replicate (length bytes) 0

zeros_fit : (o : Option (List ℕ)) → IfSome (option_map (zeros) o) (λ new. IsSomeAnd o (λ old. length new ≡ length old))
zeros_fit None = tt
zeros_fit (Some old) = length-replicate {A = ℕ} (length old) 0

pub fields_fit : (frame : List ℕ) → AllFit (fields_of frame) frame
fields_fit frame Tag = tags_fit frame (value Tag frame) refl
fields_fit frame LinkDst = bytes_fit (value LinkDst frame)
fields_fit frame LinkSrc = bytes_fit (value LinkSrc frame)
fields_fit frame Tos = bytes_fit (value Tos frame)
fields_fit frame Ttl = bytes_fit (value Ttl frame)
fields_fit frame SrcIp = bytes_fit (value SrcIp frame)
fields_fit frame DstIp = bytes_fit (value DstIp frame)
fields_fit frame SrcPort = bytes_fit (value SrcPort frame)
fields_fit frame DstPort = bytes_fit (value DstPort frame)
fields_fit frame Payload = bytes_fit (value Payload frame)

abbrev pub blanks : List ℕ → Field → Option (List ℕ)
blanks frame f = option_map (blank f) (value f frame)

pub blanks_fit : (frame : List ℕ) → AllFit (blanks frame) frame
blanks_fit frame Tag = blank_tags_fit frame (value Tag frame) refl
blanks_fit frame LinkDst = zeros_fit (value LinkDst frame)
blanks_fit frame LinkSrc = zeros_fit (value LinkSrc frame)
blanks_fit frame Tos = zeros_fit (value Tos frame)
blanks_fit frame Ttl = zeros_fit (value Ttl frame)
blanks_fit frame SrcIp = zeros_fit (value SrcIp frame)
blanks_fit frame DstIp = zeros_fit (value DstIp frame)
blanks_fit frame SrcPort = zeros_fit (value SrcPort frame)
blanks_fit frame DstPort = zeros_fit (value DstPort frame)
blanks_fit frame Payload = zeros_fit (value Payload frame)

or_blank : (f : Field) (o : Option (List ℕ)) → option_or o (option_map (blank f) o) ≡ o
or_blank f None = refl
or_blank f (Some v) = refl

-- a frame is rebuilt from its rest and its fields
pub written-rest : (frame : List ℕ) → written (fields_of frame) (rest_of frame) ≡ frame
written-rest frame =
    written-written (fields_of frame) (blanks frame) frame (fields_fit frame) (blanks_fit frame) ∙ own_in all_fields (over (fields_of frame) (blanks frame)) frame (λ f. or_blank f (value f frame))

blank_or_tags : (o p : Option (List ℕ)) → IfSome o (λ _. IsSome p) → option_map (blank Tag) (option_or o p) ≡ option_map (blank Tag) p
blank_or_tags None p there = refl
blank_or_tags (Some new) None there = absurd (false≢true there)
blank_or_tags (Some new) (Some old) there = refl

blank_or : (o p : Option (List ℕ)) → IfSome o (λ new. IsSomeAnd p (λ old. length new ≡ length old)) → option_map (zeros) (option_or o p) ≡ option_map (zeros) p
blank_or None p fits = refl
blank_or (Some new) None fits = absurd fits
blank_or (Some new) (Some old) fits = ap (λ (n : ℕ). Some (replicate {A = ℕ} n 0)) fits

tags_present : (o : Option (List ℕ)) (frame : List ℕ) → FitsSome Tag o frame → IfSome o (λ _. IsSome (value Tag frame))
tags_present None frame fits = tt
tags_present (Some new) frame fits = fits.0

blank_over : (f : Field) (o : Option (List ℕ)) (frame : List ℕ) → FitsSome f o frame → option_map (blank f) (option_or o (value f frame)) ≡ option_map (blank f) (value f frame)
blank_over Tag o frame fits = blank_or_tags o (value Tag frame) (tags_present o frame fits)
blank_over LinkDst o frame fits = blank_or o (value LinkDst frame) fits
blank_over LinkSrc o frame fits = blank_or o (value LinkSrc frame) fits
blank_over Tos o frame fits = blank_or o (value Tos frame) fits
blank_over Ttl o frame fits = blank_or o (value Ttl frame) fits
blank_over SrcIp o frame fits = blank_or o (value SrcIp frame) fits
blank_over DstIp o frame fits = blank_or o (value DstIp frame) fits
blank_over SrcPort o frame fits = blank_or o (value SrcPort frame) fits
blank_over DstPort o frame fits = blank_or o (value DstPort frame) fits
blank_over Payload o frame fits = blank_or o (value Payload frame) fits

none_absorbs : (b : List ℕ → List ℕ) (o p : Option (List ℕ)) → IfSome o (λ _. IsSome p) → option_or (option_map b p) o ≡ option_map b p
none_absorbs b None None there = refl
none_absorbs b None (Some old) there = refl
none_absorbs b (Some new) None there = absurd (false≢true there)
none_absorbs b (Some new) (Some old) there = refl

and_some : (P : List ℕ → Type 0) (p : Option (List ℕ)) → IsSomeAnd p P → IsSome p
and_some P None h = absurd h
and_some P (Some old) h = refl

fits_present : (f : Field) (new frame : List ℕ) → Fits f new frame → IsSome (value f frame)
fits_present Tag new frame fits = fits.0
fits_present LinkDst new frame fits = and_some (λ (old : List ℕ). length new ≡ length old) (value LinkDst frame) fits
fits_present LinkSrc new frame fits = and_some (λ (old : List ℕ). length new ≡ length old) (value LinkSrc frame) fits
fits_present Tos new frame fits = and_some (λ (old : List ℕ). length new ≡ length old) (value Tos frame) fits
fits_present Ttl new frame fits = and_some (λ (old : List ℕ). length new ≡ length old) (value Ttl frame) fits
fits_present SrcIp new frame fits = and_some (λ (old : List ℕ). length new ≡ length old) (value SrcIp frame) fits
fits_present DstIp new frame fits = and_some (λ (old : List ℕ). length new ≡ length old) (value DstIp frame) fits
fits_present SrcPort new frame fits = and_some (λ (old : List ℕ). length new ≡ length old) (value SrcPort frame) fits
fits_present DstPort new frame fits = and_some (λ (old : List ℕ). length new ≡ length old) (value DstPort frame) fits
fits_present Payload new frame fits = and_some (λ (old : List ℕ). length new ≡ length old) (value Payload frame) fits

present : (f : Field) (o : Option (List ℕ)) (frame : List ℕ) → FitsSome f o frame → IfSome o (λ _. IsSome (value f frame))
present f None frame fits = tt
present f (Some new) frame fits = fits_present f new frame fits

-- the rest of a frame stays when its fields are written
pub rest_of-written : (values : Field → Option (List ℕ)) (frame : List ℕ) → AllFit values frame → rest_of (written values frame) ≡ rest_of frame
rest_of-written values frame fits =
    same_in all_fields (blanks (written values frame)) (blanks frame) (written values frame) (λ f. ap (λ (o : Option (List ℕ)). option_map (blank f) o) (value-written values frame fits f) ∙ blank_over f (values f) frame (fits f))
    ∙ (written-written (blanks frame) values frame (blanks_fit frame) fits
    ∙ same_in all_fields (over (blanks frame) values) (blanks frame) frame (λ f. none_absorbs (blank f) (values f) (value f frame) (present f (values f) frame (fits f))))
