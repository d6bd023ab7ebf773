-- A function makes a frame longer by at most one tag, and sealing keeps a frame's length.
use Rattle.std.proofs.Common.{◌≡◌, ◌≢◌, ◌≤◌, ◌∙◌, ℕ, ◌+◌, List, [], ◌∷◌, ◌++◌, length, take, Bool, true, false, refl, ap, sym, subst, length-append, length-take, length-drop, arith}
use Rattle.std.specs.Prelude.{IfSome, IsSome, IsSomeAnd, None, Option, Some, if◌then◌else◌}
use Rattle.std.proofs.lemmas.Option.{same_Some}
use Rattle.packet_fields.specs.Checksums.{sealed, packet_sealed}
use Rattle.packet_fields.specs.Fields.{span, value}
use Rattle.packet_fields.specs.Frames.{is_tag_list, packet, packet_at, tags_of}
use Rattle.packet_fields.specs.Writing.{AllFit, Fits, all_fields, fields_of, put, put_at, put_some, written_in}
use Rattle.packet_fields.specs.declared.field.Field.{Field}
use Rattle.packet_fields.specs.declared.field.Field.TheVariants.{LinkDst, LinkSrc, Tag, Tos, Ttl, SrcIp, DstIp, SrcPort, DstPort, Payload}
use Rattle.packet_fields.specs.declared.plan.Span.{Span}
use Rattle.packet_fields.proofs.Framing.{framed}
use Rattle.packet_fields.proofs.Overwriting.{length-overwritten}
use Rattle.packet_fields.proofs.Puts.{fits_len, long_from_tags, own_parts, value-parts, value-put_other, value-put_own}
use Rattle.packet_fields.proofs.Sealed.{packet_sealed_keeps}
use Rattle.packet_fields.proofs.Spans.{span-inside}
use Rattle.packet_fields.proofs.Walk.{all_fit_after, fields_fit}
use Rattle.chain_walk.specs.Laws.{KeepsProfile}
use Rattle.chain_walk.specs.Shown.{Values, fixed_of}
use Rattle.chain_walk.specs.Step.{Behaviour}
use Rattle.chain_walk.specs.Walk.{applied, frame_after}
use Rattle.chain_walk.proofs.FrameWalkIsFieldWalk.{step_fits}
use Rattle.chain_walk.proofs.WellFormedFields.{frame_formed}

-- sealing keeps a frame's length
pub sealed_length : (before after : List ℕ) → length (sealed before after) ≡ length after
sealed_length before after =
    let shape = (packet_sealed_keeps (packet before) (packet after)).shape in
    let same = shape.len in
    let whole = length-append (take (packet_at after) after) (packet_sealed (packet before) (packet after)) in
    omega (arith, same, whole, length-take (packet_at after) after, length-drop (packet_at after) after)

-- a field whose value keeps its length keeps the frame's length
at_length : (new frame : List ℕ) (o : Option Span) → IfSome o (λ s. s.at + s.len ≤ length frame) → ((s : Span) → o ≡ Some s → length new ≡ s.len) → length (put_at o new frame) ≡ length frame
at_length new frame None inside same = refl
at_length new frame (Some s) inside same = let len = same s refl in length-overwritten s.at new frame (omega arith)

field_length : (f : Field) (new frame : List ℕ) → f ≢ Tag → Fits f new frame → length (put_at (span f frame) new frame) ≡ length frame
field_length f new frame no_tag fits = at_length new frame (span f frame) (span-inside f frame) (λ s is. fits_len f new frame s no_tag fits is)

-- a frame with other tags is longer by as much as the tags are
tags_length : (new old frame : List ℕ) → value Tag frame ≡ Some old → length (put Tag new frame) + length old ≡ length frame + length new
tags_length new old frame is =
    let there : IsSome (value Tag frame) = subst (λ o. IsSome o) (sym is) refl in
    let long = long_from_tags frame there in
    let own : tags_of frame ≡ old = same_Some (tags_of frame) old (sym (value-parts Tag (take 12 frame) (tags_of frame) (packet frame) frame (own_parts frame long)) ∙ is) in
    let count : length (tags_of frame) ≡ length old = ap (λ (l : List ℕ). length l) own in
    let joined : length frame ≡ length (take 12 frame ++ (tags_of frame ++ packet frame)) = ap (λ (l : List ℕ). length l) (framed frame long).joined in
    let before : length (take 12 frame ++ (tags_of frame ++ packet frame)) ≡ length (take 12 frame) + length (tags_of frame ++ packet frame) = length-append (take 12 frame) (tags_of frame ++ packet frame) in
    let behind : length (tags_of frame ++ packet frame) ≡ length (tags_of frame) + length (packet frame) = length-append (tags_of frame) (packet frame) in
    let before_new : length (put Tag new frame) ≡ length (take 12 frame) + length (new ++ packet frame) = length-append (take 12 frame) (new ++ packet frame) in
    let behind_new : length (new ++ packet frame) ≡ length new + length (packet frame) = length-append new (packet frame) in
    omega (arith, count, joined, before, behind, before_new, behind_new)

-- the number of bytes that a field may add
abbrev room : Field → ℕ
room Tag = 4
room f = 0

abbrev rooms : List Field → ℕ
rooms [] = 0
rooms (f ∷ fs) = room f + rooms fs

tag_longer : (new : List ℕ) (frame : List ℕ) (o : Option (List ℕ)) → value Tag frame ≡ o → IsSomeAnd o (λ old. length new ≤ length old + 4) → length (put Tag new frame) ≤ length frame + 4
tag_longer new frame None is h = absurd h
tag_longer new frame (Some old) is h = let whole = tags_length new old frame is in omega arith

put_length : (f : Field) (new frame : List ℕ) → Fits f new frame → (f ≡ Tag → IsSomeAnd (value Tag frame) (λ old. length new ≤ length old + 4)) → length (put f new frame) ≤ length frame + room f
put_length Tag new frame fits longer = tag_longer new frame (value Tag frame) refl (longer refl)
put_length LinkDst new frame fits longer = let same = field_length LinkDst new frame (λ e. cc) fits in omega arith
put_length LinkSrc new frame fits longer = let same = field_length LinkSrc new frame (λ e. cc) fits in omega arith
put_length Tos new frame fits longer = let same = field_length Tos new frame (λ e. cc) fits in omega arith
put_length Ttl new frame fits longer = let same = field_length Ttl new frame (λ e. cc) fits in omega arith
put_length SrcIp new frame fits longer = let same = field_length SrcIp new frame (λ e. cc) fits in omega arith
put_length DstIp new frame fits longer = let same = field_length DstIp new frame (λ e. cc) fits in omega arith
put_length SrcPort new frame fits longer = let same = field_length SrcPort new frame (λ e. cc) fits in omega arith
put_length DstPort new frame fits longer = let same = field_length DstPort new frame (λ e. cc) fits in omega arith
put_length Payload new frame fits longer = let same = field_length Payload new frame (λ e. cc) fits in omega arith

-- how much the tags may grow stays the same when a field is written
abbrev MayGrow : Option (List ℕ) → Option (List ℕ) → Type 0
MayGrow new old = IfSome new (λ n. IsSomeAnd old (λ o. length n ≤ length o + 4))

at_tag : (f : Field) (values : Values) (o : Option (List ℕ)) (new frame : List ℕ) → o ≡ Some new → values f ≡ o → MayGrow (values Tag) (value Tag frame) → f ≡ Tag → IsSomeAnd (value Tag frame) (λ old. length new ≤ length old + 4)
at_tag f values o new frame some is tag same = subst (λ x. MayGrow x (value Tag frame)) (ap values (sym same) ∙ is ∙ some) tag

own_growth : (o : Option (List ℕ)) → MayGrow o o
own_growth None = tt
own_growth (Some new) = omega arith

still_other : (f : Field) (values : Values) (new frame : List ℕ) → f ≢ Tag → Fits f new frame → MayGrow (values Tag) (value Tag frame) → MayGrow (values Tag) (value Tag (put f new frame))
still_other f values new frame no_tag fits tag = subst (MayGrow (values Tag)) (sym (value-put_other f Tag new frame no_tag fits)) tag

still_own : (values : Values) (new frame : List ℕ) → values Tag ≡ Some new → Fits Tag new frame → MayGrow (values Tag) (value Tag (put Tag new frame))
still_own values new frame is fits = subst (λ x. MayGrow x (value Tag (put Tag new frame))) (sym is) (subst (MayGrow (Some new)) (sym (value-put_own Tag new frame fits)) (own_growth (Some new)))

still : (f : Field) (values : Values) (new frame : List ℕ) → values f ≡ Some new → Fits f new frame → MayGrow (values Tag) (value Tag frame) → MayGrow (values Tag) (value Tag (put f new frame))
still Tag values new frame is fits tag = still_own values new frame is fits
still LinkDst values new frame is fits tag = still_other LinkDst values new frame (λ e. cc) fits tag
still LinkSrc values new frame is fits tag = still_other LinkSrc values new frame (λ e. cc) fits tag
still Tos values new frame is fits tag = still_other Tos values new frame (λ e. cc) fits tag
still Ttl values new frame is fits tag = still_other Ttl values new frame (λ e. cc) fits tag
still SrcIp values new frame is fits tag = still_other SrcIp values new frame (λ e. cc) fits tag
still DstIp values new frame is fits tag = still_other DstIp values new frame (λ e. cc) fits tag
still SrcPort values new frame is fits tag = still_other SrcPort values new frame (λ e. cc) fits tag
still DstPort values new frame is fits tag = still_other DstPort values new frame (λ e. cc) fits tag
still Payload values new frame is fits tag = still_other Payload values new frame (λ e. cc) fits tag

-- one field is written
some_tag : (f : Field) (values : Values) (frame : List ℕ) (o : Option (List ℕ)) → values f ≡ o → IfSome o (λ new. Fits f new frame) → MayGrow (values Tag) (value Tag frame) → MayGrow (values Tag) (value Tag (put_some f o frame))
some_tag f values frame None is fits tag = tag
some_tag f values frame (Some new) is fits tag = still f values new frame is fits tag

some_length : (f : Field) (values : Values) (frame : List ℕ) (o : Option (List ℕ)) → values f ≡ o → IfSome o (λ new. Fits f new frame) → MayGrow (values Tag) (value Tag frame) → length (put_some f o frame) ≤ length frame + room f
some_length f values frame None is fits tag = omega arith
some_length f values frame (Some new) is fits tag = put_length f new frame fits (at_tag f values (Some new) new frame refl is tag)

written_length : (fs : List Field) (values : Values) (frame : List ℕ) → AllFit values frame → MayGrow (values Tag) (value Tag frame) → length (written_in fs values frame) ≤ length frame + rooms fs
unfolding written_in
written_length [] values frame fits tag = omega arith
written_length (f ∷ fs) values frame fits tag =
    let once = some_length f values frame (values f) refl (fits f) tag in
    let later = written_length fs values (put_some f (values f) frame) (all_fit_after values f (values f) frame (fits f) fits) (some_tag f values frame (values f) refl (fits f) tag) in
    omega arith

tag_at_most : (adds : Bool) (new old : Option (List ℕ)) → IfSome new (λ n. (is_tag_list n ≡ true) × IsSomeAnd old (λ o. length n ≤ length o + (if adds then 4 else 0))) → MayGrow new old
tag_at_most adds None old h = tt
tag_at_most adds (Some n) None h = absurd h.1
tag_at_most true (Some n) (Some o) h = h.1
tag_at_most false (Some n) (Some o) h = let most = h.1 in omega arith

-- a function makes a frame longer by at most one tag
pub frame_grows : {F : Type 0} (b : Behaviour F) (time : ℕ) (f : F) (frame : List ℕ) → KeepsProfile b → length (frame_after b time f frame) ≤ length frame + 4
frame_grows b time f frame keeps =
    written_length all_fields (applied b time f frame).written frame
    (step_fits b (fixed_of time frame) f (fields_of frame) frame keeps (fields_fit frame))
    (tag_at_most (b.profile f).adds ((applied b time f frame).written Tag) (value Tag frame) (keeps.tags (fixed_of time frame) f (fields_of frame) (frame_formed frame).tags))
