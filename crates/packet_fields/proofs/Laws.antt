-- Laws of frames in which fields are written.
use Rattle.std.proofs.Common.{◌≡◌, ◌≢◌, ◌≤◌, ◌+◌, ◌∙◌, ℕ, List, ◌++◌, length, take, true, sym, ap, refl, arith, subst, ⊎_elim, ◌⊎◌, inl, inr}
use Rattle.std.specs.Prelude.{Option, Some, None, IsSomeAnd, option_map, is_some}
use Rattle.std.proofs.lemmas.List.{take_at}
use Rattle.std.proofs.lemmas.Option.{none-some, same_Some}
use Rattle.packet_fields.specs.Frames.{is_tag_list, packet, tags_of}
use Rattle.packet_fields.specs.Fields.{span, value, bytes_at, packet_span}
use Rattle.packet_fields.specs.Writing.{overwritten, put, with_tags, Fits}
use Rattle.packet_fields.specs.declared.field.Field.{Field}
use Rattle.packet_fields.specs.declared.field.Field.TheVariants.{LinkDst, LinkSrc, Tag, Tos, Ttl, SrcIp, DstIp, SrcPort, DstPort, Payload}
use Rattle.packet_fields.specs.declared.plan.Span.{Span}
use Rattle.packet_fields.proofs.Spans.{found_inside}
use Rattle.packet_fields.proofs.Overwriting.{cong3, length-overwritten, overwritten_twice, overwritten_own, overwritten_comm, cong2}
use Rattle.packet_fields.proofs.Shapes.{Apart}
use Rattle.packet_fields.proofs.Framing.{framed, parts}
use Rattle.packet_fields.proofs.OverwrittenField.{span-same, lies_at, apart_in_frame, LiesAt, InPacketAt, writes_packet, overwritten-front, link_keeps}
use Rattle.packet_fields.proofs.Puts.{value-parts, puts_at, put_is, put_keeps, value-put_own, value-put_other, long_from_tags, retagged, own_parts}

is_tag : (f : Field) → (f ≡ Tag) ⊎ (f ≢ Tag)
is_tag Tag = inl refl
is_tag LinkDst = inr (λ e. cc)
is_tag LinkSrc = inr (λ e. cc)
is_tag Tos = inr (λ e. cc)
is_tag Ttl = inr (λ e. cc)
is_tag SrcIp = inr (λ e. cc)
is_tag DstIp = inr (λ e. cc)
is_tag SrcPort = inr (λ e. cc)
is_tag DstPort = inr (λ e. cc)
is_tag Payload = inr (λ e. cc)

-- what fits before another field is put fits afterwards
fits_by : (f : Field) (new a b : List ℕ) → value f b ≡ value f a → Fits f new a → Fits f new b
fits_by Tag new a b same fits = (ap (λ (o : Option (List ℕ)). is_some o) same ∙ fits.0, fits.1)
fits_by LinkDst new a b same fits = subst (λ (o : Option (List ℕ)). IsSomeAnd o (λ old. length new ≡ length old)) (sym same) fits
fits_by LinkSrc new a b same fits = subst (λ (o : Option (List ℕ)). IsSomeAnd o (λ old. length new ≡ length old)) (sym same) fits
fits_by Tos new a b same fits = subst (λ (o : Option (List ℕ)). IsSomeAnd o (λ old. length new ≡ length old)) (sym same) fits
fits_by Ttl new a b same fits = subst (λ (o : Option (List ℕ)). IsSomeAnd o (λ old. length new ≡ length old)) (sym same) fits
fits_by SrcIp new a b same fits = subst (λ (o : Option (List ℕ)). IsSomeAnd o (λ old. length new ≡ length old)) (sym same) fits
fits_by DstIp new a b same fits = subst (λ (o : Option (List ℕ)). IsSomeAnd o (λ old. length new ≡ length old)) (sym same) fits
fits_by SrcPort new a b same fits = subst (λ (o : Option (List ℕ)). IsSomeAnd o (λ old. length new ≡ length old)) (sym same) fits
fits_by DstPort new a b same fits = subst (λ (o : Option (List ℕ)). IsSomeAnd o (λ old. length new ≡ length old)) (sym same) fits
fits_by Payload new a b same fits = subst (λ (o : Option (List ℕ)). IsSomeAnd o (λ old. length new ≡ length old)) (sym same) fits

pub fits-put_other : (f g : Field) (new other frame : List ℕ) → g ≢ f → Fits g other frame → Fits f new frame → Fits f new (put g other frame)
fits-put_other f g new other frame differ fits_g fits = fits_by f new frame (put g other frame) (value-put_other g f other frame differ fits_g) fits

same_len : (new other : List ℕ) (o : Option (List ℕ)) → IsSomeAnd o (λ old. length new ≡ length old) → IsSomeAnd o (λ old. length other ≡ length old) → length new ≡ length other
same_len new other None fits fits_other = absurd fits
same_len new other (Some old) fits fits_other = fits ∙ sym fits_other

-- a value still fits a field after another value of the field that fits was put
fits_own_by : (f : Field) (new other a b : List ℕ) → value f b ≡ Some other → Fits f new a → Fits f other a → Fits f new b
fits_own_by Tag new other a b same fits fits_other = (ap (λ (o : Option (List ℕ)). is_some o) same, fits.1)
fits_own_by LinkDst new other a b same fits fits_other = subst (λ (o : Option (List ℕ)). IsSomeAnd o (λ old. length new ≡ length old)) (sym same) (same_len new other (value LinkDst a) fits fits_other)
fits_own_by LinkSrc new other a b same fits fits_other = subst (λ (o : Option (List ℕ)). IsSomeAnd o (λ old. length new ≡ length old)) (sym same) (same_len new other (value LinkSrc a) fits fits_other)
fits_own_by Tos new other a b same fits fits_other = subst (λ (o : Option (List ℕ)). IsSomeAnd o (λ old. length new ≡ length old)) (sym same) (same_len new other (value Tos a) fits fits_other)
fits_own_by Ttl new other a b same fits fits_other = subst (λ (o : Option (List ℕ)). IsSomeAnd o (λ old. length new ≡ length old)) (sym same) (same_len new other (value Ttl a) fits fits_other)
fits_own_by SrcIp new other a b same fits fits_other = subst (λ (o : Option (List ℕ)). IsSomeAnd o (λ old. length new ≡ length old)) (sym same) (same_len new other (value SrcIp a) fits fits_other)
fits_own_by DstIp new other a b same fits fits_other = subst (λ (o : Option (List ℕ)). IsSomeAnd o (λ old. length new ≡ length old)) (sym same) (same_len new other (value DstIp a) fits fits_other)
fits_own_by SrcPort new other a b same fits fits_other = subst (λ (o : Option (List ℕ)). IsSomeAnd o (λ old. length new ≡ length old)) (sym same) (same_len new other (value SrcPort a) fits fits_other)
fits_own_by DstPort new other a b same fits fits_other = subst (λ (o : Option (List ℕ)). IsSomeAnd o (λ old. length new ≡ length old)) (sym same) (same_len new other (value DstPort a) fits fits_other)
fits_own_by Payload new other a b same fits fits_other = subst (λ (o : Option (List ℕ)). IsSomeAnd o (λ old. length new ≡ length old)) (sym same) (same_len new other (value Payload a) fits fits_other)

pub fits-put_own : (f : Field) (new other frame : List ℕ) → Fits f new frame → Fits f other frame → Fits f new (put f other frame)
fits-put_own f new other frame fits fits_other = fits_own_by f new other frame (put f other frame) (value-put_own f other frame fits_other) fits fits_other

-- the later value of a field prevails
twice_span : (f : Field) (new old frame : List ℕ) → f ≢ Tag → Fits f new frame → Fits f old frame → put f new (put f old frame) ≡ put f new frame
twice_span f new old frame no_tag fits fits_old =
    let p = puts_at f new frame no_tag fits in
    let q = puts_at f old frame no_tag fits_old in
    let same : q.at ≡ p.at = same_Some q.at p.at (sym q.found ∙ p.found) in
    let keeps = put_keeps f old frame no_tag fits_old in
    let found : span f (put f old frame) ≡ Some p.at = span-same f frame (put f old frame) keeps ∙ p.found in
    let old_is : put f old frame ≡ overwritten p.at.at old frame = put_is f old frame q.at no_tag q.found ∙ ap (λ (s : Span). overwritten s.at old frame) same in
    let len_old : length old ≡ length new = q.len ∙ (ap (λ (s : Span). s.len) same ∙ sym p.len) in
    let inside : p.at.at + length new ≤ length frame = let i = p.inside in let l = p.len in omega arith in
    put_is f new (put f old frame) p.at no_tag found ∙ (ap (λ (xs : List ℕ). overwritten p.at.at new xs) old_is ∙ (overwritten_twice p.at.at old new frame inside len_old ∙ sym (put_is f new frame p.at no_tag p.found)))

twice_tags : (new old frame : List ℕ) → Fits Tag old frame → with_tags new (with_tags old frame) ≡ with_tags new frame
twice_tags new old frame fits =
    let h = retagged old frame (long_from_tags frame fits.0) fits.1 in
    cong2 (λ (a p : List ℕ). a ++ (new ++ p)) h.addresses_are h.packet_is

pub put-put_own : (f : Field) (new old frame : List ℕ) → Fits f new frame → Fits f old frame → put f new (put f old frame) ≡ put f new frame
put-put_own Tag new old frame fits fits_old = twice_tags new old frame fits_old
put-put_own LinkDst new old frame fits fits_old = twice_span LinkDst new old frame (λ e. cc) fits fits_old
put-put_own LinkSrc new old frame fits fits_old = twice_span LinkSrc new old frame (λ e. cc) fits fits_old
put-put_own Tos new old frame fits fits_old = twice_span Tos new old frame (λ e. cc) fits fits_old
put-put_own Ttl new old frame fits fits_old = twice_span Ttl new old frame (λ e. cc) fits fits_old
put-put_own SrcIp new old frame fits fits_old = twice_span SrcIp new old frame (λ e. cc) fits fits_old
put-put_own DstIp new old frame fits fits_old = twice_span DstIp new old frame (λ e. cc) fits fits_old
put-put_own SrcPort new old frame fits fits_old = twice_span SrcPort new old frame (λ e. cc) fits fits_old
put-put_own DstPort new old frame fits fits_old = twice_span DstPort new old frame (λ e. cc) fits fits_old
put-put_own Payload new old frame fits fits_old = twice_span Payload new old frame (λ e. cc) fits fits_old

-- a field that is put with its own value
own_span : (f : Field) (frame : List ℕ) (s : Span) (old : List ℕ) → f ≢ Tag → span f frame ≡ Some s → value f frame ≡ Some old → put f old frame ≡ frame
own_span f frame s old no_tag found is =
    let old_is : bytes_at frame s ≡ old = same_Some (bytes_at frame s) old (sym (ap (λ (o : Option Span). option_map (bytes_at frame) o) found) ∙ is) in
    put_is f old frame s no_tag found ∙ (ap (λ (xs : List ℕ). overwritten s.at xs frame) (sym old_is) ∙ overwritten_own s.at s.len frame (found_inside f frame s found))

own_found : (f : Field) (frame : List ℕ) (o : Option Span) (old : List ℕ) → f ≢ Tag → span f frame ≡ o → value f frame ≡ Some old → put f old frame ≡ frame
own_found f frame None old no_tag found is = absurd (none-some old (sym (ap (λ (o : Option Span). option_map (bytes_at frame) o) found) ∙ is))
own_found f frame (Some s) old no_tag found is = own_span f frame s old no_tag found is

own_tags : (frame old : List ℕ) → value Tag frame ≡ Some old → with_tags old frame ≡ frame
own_tags frame old is =
    let long = long_from_tags frame (ap (λ (o : Option (List ℕ)). is_some o) is) in
    let old_is : tags_of frame ≡ old = same_Some (tags_of frame) old (sym (value-parts Tag (take 12 frame) (tags_of frame) (packet frame) frame (own_parts frame long)) ∙ is) in
    sym (ap (λ (t : List ℕ). with_tags t frame) old_is) ∙ sym (framed frame long).joined

pub put_own : (f : Field) (frame old : List ℕ) → value f frame ≡ Some old → put f old frame ≡ frame
put_own Tag frame old is = own_tags frame old is
put_own LinkDst frame old is = own_found LinkDst frame (span LinkDst frame) old (λ e. cc) refl is
put_own LinkSrc frame old is = own_found LinkSrc frame (span LinkSrc frame) old (λ e. cc) refl is
put_own Tos frame old is = own_found Tos frame (span Tos frame) old (λ e. cc) refl is
put_own Ttl frame old is = own_found Ttl frame (span Ttl frame) old (λ e. cc) refl is
put_own SrcIp frame old is = own_found SrcIp frame (span SrcIp frame) old (λ e. cc) refl is
put_own DstIp frame old is = own_found DstIp frame (span DstIp frame) old (λ e. cc) refl is
put_own SrcPort frame old is = own_found SrcPort frame (span SrcPort frame) old (λ e. cc) refl is
put_own DstPort frame old is = own_found DstPort frame (span DstPort frame) old (λ e. cc) refl is
put_own Payload frame old is = own_found Payload frame (span Payload frame) old (λ e. cc) refl is

-- two fields may be put in either order
comm_apart : (a b : ℕ) (new other xs : List ℕ) (s t : Span) → Apart s t → s.at ≡ a → t.at ≡ b → length new ≡ s.len → length other ≡ t.len → s.at + s.len ≤ length xs → t.at + t.len ≤ length xs → overwritten a new (overwritten b other xs) ≡ overwritten b other (overwritten a new xs)
comm_apart a b new other xs s t (inl before) sa tb ls lt is it = overwritten_comm a b new other xs (omega arith) (omega arith)
comm_apart a b new other xs s t (inr behind) sa tb ls lt is it = sym (overwritten_comm b a other new xs (omega arith) (omega arith))

comm_spans : (f g : Field) (new other frame : List ℕ) → f ≢ Tag → g ≢ Tag → f ≢ g → Fits f new frame → Fits g other frame → put f new (put g other frame) ≡ put g other (put f new frame)
comm_spans f g new other frame f_no g_no differ fits fits_g =
    let p = puts_at f new frame f_no fits in
    let q = puts_at g other frame g_no fits_g in
    let found_f : span f (put g other frame) ≡ Some p.at = span-same f frame (put g other frame) (put_keeps g other frame g_no fits_g) ∙ p.found in
    let found_g : span g (put f new frame) ≡ Some q.at = span-same g frame (put f new frame) (put_keeps f new frame f_no fits) ∙ q.found in
    put_is f new (put g other frame) p.at f_no found_f
    ∙ (ap (λ (xs : List ℕ). overwritten p.at.at new xs) (put_is g other frame q.at g_no q.found)
    ∙ (comm_apart p.at.at q.at.at new other frame p.at q.at (apart_in_frame f g frame p.at q.at differ (lies_at f frame p.at p.found) (lies_at g frame q.at q.found)) refl refl p.len q.len p.inside q.inside
    ∙ (sym (ap (λ (xs : List ℕ). overwritten q.at.at other xs) (put_is f new frame p.at f_no p.found)) ∙ sym (put_is g other (put f new frame) q.at g_no found_g))))

-- a write before the EtherType and a change of tags commute
link_tags : (s : Span) (other tags frame : List ℕ) → 14 ≤ length frame → is_tag_list tags ≡ true → length other ≡ s.len → s.at + s.len ≤ 12 → with_tags tags (overwritten s.at other frame) ≡ overwritten s.at other (with_tags tags frame)
link_tags s other tags frame long whole len front =
    let f = framed frame long in
    let inside : s.at + length other ≤ length (take 12 frame) = omega (arith, f.addresses_len) in
    let k = link_keeps s other frame len front (omega arith) in
    let new_is : overwritten s.at other frame ≡ overwritten s.at other (take 12 frame) ++ (tags_of frame ++ packet frame) = ap (λ (xs : List ℕ). overwritten s.at other xs) f.joined ∙ overwritten-front s.at other (take 12 frame) (tags_of frame ++ packet frame) inside in
    let len_front : length (overwritten s.at other (take 12 frame)) ≡ 12 = length-overwritten s.at other (take 12 frame) inside ∙ f.addresses_len in
    let addresses : take 12 (overwritten s.at other frame) ≡ overwritten s.at other (take 12 frame) = ap (λ (xs : List ℕ). take 12 xs) new_is ∙ take_at (overwritten s.at other (take 12 frame)) (tags_of frame ++ packet frame) 12 len_front in
    let h = parts (overwritten s.at other (take 12 frame)) (tags_of frame) (packet frame) (overwritten s.at other frame) (record { joined = new_is; addresses_len = len_front; whole_tags = f.whole_tags; has_type = f.has_type; ends = f.ends }) in
    cong2 (λ (a p : List ℕ). a ++ (tags ++ p)) addresses h.packet_is ∙ sym (overwritten-front s.at other (take 12 frame) (tags ++ packet frame) inside)

packet_tags : (g : Field) (s t : Span) (other tags frame : List ℕ) → 14 ≤ length frame → is_tag_list tags ≡ true → length other ≡ s.len → InPacketAt g frame s → length other ≡ t.len → InPacketAt g (with_tags tags frame) t → with_tags tags (overwritten s.at other frame) ≡ overwritten t.at other (with_tags tags frame)
packet_tags g s t other tags frame long whole len_s in_s len_t in_t =
    let a = writes_packet g frame s other in_s len_s in
    let b = writes_packet g (with_tags tags frame) t other in_t len_t in
    let h = retagged tags frame long whole in
    let pa = parts (take 12 frame) (tags_of frame) (overwritten a.source.at.at other (packet frame)) (overwritten s.at other frame) a.framed_is in
    let same : b.source.at ≡ a.source.at = same_Some b.source.at a.source.at (sym b.source.found ∙ (ap (λ (p : List ℕ). packet_span g p) h.packet_is ∙ a.source.found)) in
    cong2 (λ (x p : List ℕ). x ++ (tags ++ p)) pa.addresses_are pa.packet_is
    ∙ (sym (cong3 (λ (x y p : List ℕ). x ++ (y ++ p)) h.addresses_are h.tags_are (cong2 (λ (s : Span) (p : List ℕ). overwritten s.at other p) same h.packet_is)) ∙ sym b.framed_is.joined)

tags_by : (g : Field) (s t : Span) (other tags frame : List ℕ) → g ≢ Tag → 14 ≤ length frame → is_tag_list tags ≡ true → length other ≡ s.len → length other ≡ t.len → LiesAt g frame s → LiesAt g (with_tags tags frame) t → with_tags tags (overwritten s.at other frame) ≡ overwritten t.at other (with_tags tags frame)
tags_by LinkDst s t other tags frame no_tag long whole len_s len_t at_s at_t = link_tags s other tags frame long whole len_s (omega arith) ∙ ap (λ (n : ℕ). overwritten n other (with_tags tags frame)) (omega arith)
tags_by LinkSrc s t other tags frame no_tag long whole len_s len_t at_s at_t = link_tags s other tags frame long whole len_s (omega arith) ∙ ap (λ (n : ℕ). overwritten n other (with_tags tags frame)) (omega arith)
tags_by Tag s t other tags frame no_tag long whole len_s len_t at_s at_t = absurd (no_tag refl)
tags_by Tos s t other tags frame no_tag long whole len_s len_t at_s at_t = packet_tags Tos s t other tags frame long whole len_s at_s len_t at_t
tags_by Ttl s t other tags frame no_tag long whole len_s len_t at_s at_t = packet_tags Ttl s t other tags frame long whole len_s at_s len_t at_t
tags_by SrcIp s t other tags frame no_tag long whole len_s len_t at_s at_t = packet_tags SrcIp s t other tags frame long whole len_s at_s len_t at_t
tags_by DstIp s t other tags frame no_tag long whole len_s len_t at_s at_t = packet_tags DstIp s t other tags frame long whole len_s at_s len_t at_t
tags_by SrcPort s t other tags frame no_tag long whole len_s len_t at_s at_t = packet_tags SrcPort s t other tags frame long whole len_s at_s len_t at_t
tags_by DstPort s t other tags frame no_tag long whole len_s len_t at_s at_t = packet_tags DstPort s t other tags frame long whole len_s at_s len_t at_t
tags_by Payload s t other tags frame no_tag long whole len_s len_t at_s at_t = packet_tags Payload s t other tags frame long whole len_s at_s len_t at_t

comm_tags : (g : Field) (tags other frame : List ℕ) → g ≢ Tag → Fits Tag tags frame → Fits g other frame → put Tag tags (put g other frame) ≡ put g other (put Tag tags frame)
comm_tags g tags other frame no_tag fits fits_g =
    let long = long_from_tags frame fits.0 in
    let p = puts_at g other frame no_tag fits_g in
    let fits_after = fits-put_other g Tag other tags frame (λ e. no_tag (sym e)) fits fits_g in
    let q = puts_at g other (with_tags tags frame) no_tag fits_after in
    ap (λ (xs : List ℕ). with_tags tags xs) (put_is g other frame p.at no_tag p.found)
    ∙ (tags_by g p.at q.at other tags frame no_tag long fits.1 p.len q.len (lies_at g frame p.at p.found) (lies_at g (with_tags tags frame) q.at q.found) ∙ sym (put_is g other (with_tags tags frame) q.at no_tag q.found))

tags_first : (f g : Field) (new other frame : List ℕ) → f ≡ Tag → f ≢ g → Fits f new frame → Fits g other frame → put f new (put g other frame) ≡ put g other (put f new frame)
tags_first Tag g new other frame is differ fits fits_g = comm_tags g new other frame (λ e. differ (sym e)) fits fits_g
tags_first Payload g new other frame is differ fits fits_g = absurd (cc)
tags_first DstPort g new other frame is differ fits fits_g = absurd (cc)
tags_first SrcPort g new other frame is differ fits fits_g = absurd (cc)
tags_first DstIp g new other frame is differ fits fits_g = absurd (cc)
tags_first SrcIp g new other frame is differ fits fits_g = absurd (cc)
tags_first Ttl g new other frame is differ fits fits_g = absurd (cc)
tags_first Tos g new other frame is differ fits fits_g = absurd (cc)
tags_first LinkSrc g new other frame is differ fits fits_g = absurd (cc)
tags_first LinkDst g new other frame is differ fits fits_g = absurd (cc)

pub put-put_other : (f g : Field) (new other frame : List ℕ) → f ≢ g → Fits f new frame → Fits g other frame → put f new (put g other frame) ≡ put g other (put f new frame)
put-put_other f g new other frame differ fits fits_g =
    ⊎_elim
    (λ (f_tag : f ≡ Tag). tags_first f g new other frame f_tag differ fits fits_g)
    (λ (f_no : f ≢ Tag). ⊎_elim
    (λ (g_tag : g ≡ Tag). sym (tags_first g f other new frame g_tag (λ e. differ (sym e)) fits_g fits))
    (λ (g_no : g ≢ Tag). comm_spans f g new other frame f_no g_no differ fits fits_g)
    (is_tag g))
    (is_tag f)
