-- A whole frame walks as its fields do.
use Rattle.std.proofs.Common.{◌≡◌, ◌≤◌, ◌∙◌, ℕ, ◌+◌, List, [], ◌∷◌, length, Bool, true, false, refl, sym, ap, subst}
use Rattle.std.specs.Prelude.{Option, Some, None, IfSome, IsSomeAnd, if◌then◌else◌, option_map}
use Rattle.std.specs.Option.{option_or}
use Rattle.packet_fields.specs.Frames.{is_tag_list}
use Rattle.packet_fields.specs.Fields.{value}
use Rattle.packet_fields.specs.Writing.{written, Fits, AllFit, fields_of, over, blank, rest_of}
use Rattle.packet_fields.specs.declared.field.Field.{Field}
use Rattle.packet_fields.specs.declared.field.Field.TheVariants.{LinkDst, LinkSrc, Tag, Tos, Ttl, SrcIp, DstIp, SrcPort, DstPort, Payload}
use Rattle.packet_fields.proofs.Walk.{value-written, written-written, written-own, fields_fit, blanks, blanks_fit}
use Rattle.packet_fields.proofs.Fixed.{SameFixed, fixed-written}
use Rattle.chain_walk.specs.Shown.{Values, fixed_of}
use Rattle.chain_walk.specs.Step.{Behaviour, stepped, is_drop}
use Rattle.chain_walk.specs.Laws.{KeepsProfile}
use Rattle.chain_walk.specs.Walk.{Walked, walk, dropped_at, then_walked}
use Rattle.chain_walk.specs.FieldWalk.{End.Out, End.Gone, Ended, walk_fields, walked_by, then_ended}
use Rattle.chain_walk.specs.declared.fixed.Fixed.{Fixed}
use Rattle.chain_walk.proofs.WellFormedFields.{old_tags, old_length}

-- Values for a frame: each fits its field's place, and there is one exactly when the frame has the field.
pub record IsFilled (values : Values) (frame : List ℕ) : Type 0 where
  pub fits : AllFit values frame
  pub whole : (f : Field) → over values (fields_of frame) f ≡ values f

or_itself : (o : Option (List ℕ)) → option_or o o ≡ o
or_itself None = refl
or_itself (Some bytes) = refl

-- a frame is filled by its own fields
pub own_filled : (frame : List ℕ) → IsFilled (fields_of frame) frame
own_filled frame = record { fits = fields_fit frame; whole = λ f. or_itself (value f frame) }

same_values : (v w : Values) → ((f : Field) → v f ≡ w f) → v ≡ w
same_values v w same = λ i f. same f i

-- what the frame holds after it is filled
pub filled_values : (values : Values) (frame : List ℕ) → IsFilled values frame → fields_of (written values frame) ≡ values
filled_values values frame filled = same_values (fields_of (written values frame)) values (λ f. value-written values frame filled.fits f ∙ filled.whole f)

same_fixed : (time : ℕ) (values : Values) (frame : List ℕ) → SameFixed frame (written values frame) → fixed_of time (written values frame) ≡ fixed_of time frame
same_fixed time values frame same = cc

-- bytes of the length of others have the length of the bytes that those replace
has_length : (new old own : Option (List ℕ)) → IfSome new (λ n. IsSomeAnd old (λ o. length n ≡ length o)) → IfSome old (λ o. IsSomeAnd own (λ w. length o ≡ length w)) → IfSome new (λ n. IsSomeAnd own (λ w. length n ≡ length w))
has_length None old own a b = tt
has_length (Some n) None own a b = absurd a
has_length (Some n) (Some o) None a b = absurd b
has_length (Some n) (Some o) (Some w) a b = a ∙ b

new_tags : (new old : Option (List ℕ)) (frame : List ℕ) (P : List ℕ → List ℕ → Type 0) → IfSome old (λ o. Fits Tag o frame) →
    IfSome new (λ n. (is_tag_list n ≡ true) × IsSomeAnd old (P n)) → IfSome new (λ n. Fits Tag n frame)
new_tags None old frame P fits are = tt
new_tags (Some n) None frame P fits are = absurd are.1
new_tags (Some n) (Some o) frame P fits are = (fits.0, are.0)

-- what a step writes fits the frame that its values fill
pub step_fits : {F : Type 0} (b : Behaviour F) (fixed : Fixed) (f : F) (values : Values) (frame : List ℕ) → KeepsProfile b → AllFit values frame → AllFit (stepped b fixed f values).written frame
step_fits b fixed f values frame keeps fits Tag =
    new_tags ((stepped b fixed f values).written Tag) (values Tag) frame (λ n o. length n ≤ length o + (if (b.profile f).adds then 4 else 0)) (fits Tag)
    (keeps.tags fixed f values (old_tags (values Tag) frame (fits Tag)))
step_fits b fixed f values frame keeps fits LinkDst = has_length ((stepped b fixed f values).written LinkDst) (values LinkDst) (value LinkDst frame) (keeps.lengths fixed f values LinkDst (λ e. cc) (old_length LinkDst (values LinkDst) frame (fits LinkDst))) (fits LinkDst)
step_fits b fixed f values frame keeps fits LinkSrc = has_length ((stepped b fixed f values).written LinkSrc) (values LinkSrc) (value LinkSrc frame) (keeps.lengths fixed f values LinkSrc (λ e. cc) (old_length LinkSrc (values LinkSrc) frame (fits LinkSrc))) (fits LinkSrc)
step_fits b fixed f values frame keeps fits Tos = has_length ((stepped b fixed f values).written Tos) (values Tos) (value Tos frame) (keeps.lengths fixed f values Tos (λ e. cc) (old_length Tos (values Tos) frame (fits Tos))) (fits Tos)
step_fits b fixed f values frame keeps fits Ttl = has_length ((stepped b fixed f values).written Ttl) (values Ttl) (value Ttl frame) (keeps.lengths fixed f values Ttl (λ e. cc) (old_length Ttl (values Ttl) frame (fits Ttl))) (fits Ttl)
step_fits b fixed f values frame keeps fits SrcIp = has_length ((stepped b fixed f values).written SrcIp) (values SrcIp) (value SrcIp frame) (keeps.lengths fixed f values SrcIp (λ e. cc) (old_length SrcIp (values SrcIp) frame (fits SrcIp))) (fits SrcIp)
step_fits b fixed f values frame keeps fits DstIp = has_length ((stepped b fixed f values).written DstIp) (values DstIp) (value DstIp frame) (keeps.lengths fixed f values DstIp (λ e. cc) (old_length DstIp (values DstIp) frame (fits DstIp))) (fits DstIp)
step_fits b fixed f values frame keeps fits SrcPort = has_length ((stepped b fixed f values).written SrcPort) (values SrcPort) (value SrcPort frame) (keeps.lengths fixed f values SrcPort (λ e. cc) (old_length SrcPort (values SrcPort) frame (fits SrcPort))) (fits SrcPort)
step_fits b fixed f values frame keeps fits DstPort = has_length ((stepped b fixed f values).written DstPort) (values DstPort) (value DstPort frame) (keeps.lengths fixed f values DstPort (λ e. cc) (old_length DstPort (values DstPort) frame (fits DstPort))) (fits DstPort)
step_fits b fixed f values frame keeps fits Payload = has_length ((stepped b fixed f values).written Payload) (values Payload) (value Payload frame) (keeps.lengths fixed f values Payload (λ e. cc) (old_length Payload (values Payload) frame (fits Payload))) (fits Payload)

fits_or : (x : Field) (new old : Option (List ℕ)) (frame : List ℕ) → IfSome new (λ n. Fits x n frame) → IfSome old (λ o. Fits x o frame) → IfSome (option_or new old) (λ n. Fits x n frame)
fits_or x None old frame a b = b
fits_or x (Some n) old frame a b = a

whole_or : (new old own : Option (List ℕ)) → option_or old own ≡ old → option_or (option_or new old) own ≡ option_or new old
whole_or None old own h = h
whole_or (Some n) old own h = refl

-- a frame stays filled after a step writes over its values
step_fills : {F : Type 0} (b : Behaviour F) (fixed : Fixed) (f : F) (values : Values) (frame : List ℕ) → KeepsProfile b → IsFilled values frame →
    IsFilled (over (stepped b fixed f values).written values) frame
step_fills b fixed f values frame keeps filled = record {
  fits = λ x. fits_or x ((stepped b fixed f values).written x) (values x) frame (step_fits b fixed f values frame keeps filled.fits x) (filled.fits x);
  whole = λ x. whole_or ((stepped b fixed f values).written x) (values x) (value x frame) (filled.whole x);
}

-- the two walks choose alike
choose : {F : Type 0} (drops : Bool) (frame : List ℕ) (f : F) (later : List F) (position : ℕ) (w : Walked F) (e : Ended F) → w ≡ walked_by frame e →
    (if drops then dropped_at position f later else then_walked f w) ≡ walked_by frame (if drops then record { functions = f ∷ later; end = Gone position } else then_ended f e)
choose true frame f later position w e h = refl
choose false frame f later position w e h = ap (then_walked f) h

-- a frame that is filled walks as the values that fill it
pub walks_filled : {F : Type 0} (b : Behaviour F) (time position : ℕ) (functions : List F) (values : Values) (frame : List ℕ) → KeepsProfile b → IsFilled values frame →
    walk b time position functions (written values frame) ≡ walked_by frame (walk_fields b (fixed_of time frame) position functions values)
unfolding walk walk_fields
walks_filled b time position [] values frame keeps filled = refl
walks_filled b time position (f ∷ later) values frame keeps filled =
    let fixed = fixed_of time frame in
    let told = stepped b fixed f values in
    let next = written told.written (written values frame) in
    let same : fixed_of time (written values frame) ≡ fixed = same_fixed time values frame (fixed-written values frame filled.fits) in
    let shown : fields_of (written values frame) ≡ values = filled_values values frame filled in
    let later_fits = step_fits b fixed f values frame keeps filled.fits in
    let once : next ≡ written (over told.written values) frame = written-written told.written values frame later_fits filled.fits in
    ap (λ x. if is_drop (stepped b x f (fields_of (written values frame))).verdict then dropped_at position (stepped b x f (fields_of (written values frame))).after later
    else then_walked (stepped b x f (fields_of (written values frame))).after (walk b time (position + 1) later (written (stepped b x f (fields_of (written values frame))).written (written values frame)))) same
    ∙ ap (λ v. if is_drop (stepped b fixed f v).verdict then dropped_at position (stepped b fixed f v).after later
    else then_walked (stepped b fixed f v).after (walk b time (position + 1) later (written (stepped b fixed f v).written (written values frame)))) shown
    ∙ choose (is_drop told.verdict) frame told.after later position (walk b time (position + 1) later next) (walk_fields b fixed (position + 1) later (over told.written values))
    (ap (walk b time (position + 1) later) once ∙ walks_filled b time (position + 1) later (over told.written values) frame keeps (step_fills b fixed f values frame keeps filled))

pub walks_as_fields : {F : Type 0} (b : Behaviour F) (time position : ℕ) (functions : List F) (frame : List ℕ) → KeepsProfile b →
    walk b time position functions frame ≡ walked_by frame (walk_fields b (fixed_of time frame) position functions (fields_of frame))
walks_as_fields b time position functions frame keeps =
    ap (walk b time position functions) (sym (written-own frame)) ∙ walks_filled b time position functions (fields_of frame) frame keeps (own_filled frame)

if_out : {F : Type 0} (drops : Bool) (f : F) (later : List F) (position : ℕ) (e : Ended F) (after : Values) → (if drops then record { functions = f ∷ later; end = Gone position } else then_ended f e).end ≡ Out after → e.end ≡ Out after
if_out true f later position e after is = absurd cc
if_out false f later position e after is = is

-- the values that come out of a walk fill the frame
pub ends_filled : {F : Type 0} (b : Behaviour F) (fixed : Fixed) (position : ℕ) (functions : List F) (values after : Values) (frame : List ℕ) → KeepsProfile b → IsFilled values frame →
    (walk_fields b fixed position functions values).end ≡ Out after → IsFilled after frame
unfolding walk_fields
ends_filled b fixed position [] values after frame keeps filled is = subst (λ (v : Values). IsFilled v frame) (same_out values after is) filled
  where
    same_out : (v w : Values) → Out v ≡ Out w → v ≡ w
    same_out v w e = cc
ends_filled b fixed position (f ∷ later) values after frame keeps filled is =
    ends_filled b fixed (position + 1) later (over (stepped b fixed f values).written values) after frame keeps (step_fills b fixed f values frame keeps filled)
    (if_out (is_drop (stepped b fixed f values).verdict) (stepped b fixed f values).after later position (walk_fields b fixed (position + 1) later (over (stepped b fixed f values).written values)) after is)

-- values that fill a frame also fill the frame without its fields
over_blank : (f : Field) (new own : Option (List ℕ)) → option_or new own ≡ new → option_or new (option_map (blank f) own) ≡ new
over_blank f None None h = refl
over_blank f None (Some w) h = absurd cc
over_blank f (Some n) own h = refl

pub built_again : (values : Values) (frame : List ℕ) → IsFilled values frame → written values (rest_of frame) ≡ written values frame
built_again values frame filled =
    written-written values (blanks frame) frame filled.fits (blanks_fit frame)
    ∙ ap (λ (v : Values). written v frame) (same_values (over values (blanks frame)) values (λ f. over_blank f (values f) (value f frame) (filled.whole f)))

-- so a frame is joined from the frame without its fields, its own fields and what a step wrote over them
pub put_together : {F : Type 0} (b : Behaviour F) (fixed : Fixed) (f : F) (frame : List ℕ) → KeepsProfile b →
    written (over (stepped b fixed f (fields_of frame)).written (fields_of frame)) (rest_of frame) ≡ written (stepped b fixed f (fields_of frame)).written frame
put_together b fixed f frame keeps =
    let own = own_filled frame in
    let new = (stepped b fixed f (fields_of frame)).written in
    built_again (over new (fields_of frame)) frame (step_fills b fixed f (fields_of frame) frame keeps own)
    ∙ sym (written-written new (fields_of frame) frame (step_fits b fixed f (fields_of frame) frame keeps own.fits) own.fits)
    ∙ ap (written new) (written-own frame)
