-- How `put` changes the fields of a frame.
use Rattle.std.proofs.Common.{◌≡◌, ◌≢◌, ◌≤◌, ◌<◌, ◌+◌, ◌-◌, ◌∙◌, ℕ, List, length, take, drop, length-take, length-drop, length-take-le, Bool, true, sym, ap, refl, arith, subst, ⊎_elim}
use Rattle.std.specs.Prelude.{Option, Some, None, IsSome, IsSomeAnd, option_map, is_some, if◌then◌else◌, nat_le}
use Rattle.std.proofs.lemmas.Bool.{cases_lt, le-leb, lt-leb, cond-true, false≢true}
use Rattle.std.proofs.lemmas.List.{take-take, take_all, drop-take}
use Rattle.std.proofs.lemmas.Option.{same_Some}
use Rattle.packet_fields.specs.Frames.{is_tag_list, tags_len, packet, tags_of}
use Rattle.packet_fields.specs.Packets.{span_within}
use Rattle.packet_fields.specs.Fields.{span, value, bytes_at, layout_of}
use Rattle.packet_fields.specs.Writing.{overwritten, put, put_at, with_tags, Fits}
use Rattle.packet_fields.specs.declared.field.Field.{Field}
use Rattle.packet_fields.specs.declared.field.Field.TheVariants.{LinkDst, LinkSrc, Tag, Tos, Ttl, SrcIp, DstIp, SrcPort, DstPort, Payload}
use Rattle.packet_fields.specs.declared.plan.Span.{Span}
use Rattle.packet_fields.proofs.Spans.{found_inside}
use Rattle.packet_fields.proofs.Overwriting.{cong3, bytes_same, cong2}
use Rattle.packet_fields.proofs.Shapes.{bytes_apart, packet_value}
use Rattle.packet_fields.proofs.Framing.{framed, parts, HasParts}
use Rattle.packet_fields.proofs.OverwrittenField.{KeepsPlaces, keeps, span-same, layout-same, lies_at, apart_in_frame, value-packet}

-- the place of a field that a value fits
pub record PutsAt (f : Field) (new frame : List ℕ) : Type 0 where
  pub at : Span
  pub found : span f frame ≡ Some at
  pub len : length new ≡ at.len
  pub inside : at.at + at.len ≤ length frame

puts_at_span : (f : Field) (new frame : List ℕ) (o : Option Span) → span f frame ≡ o → IsSomeAnd (option_map (bytes_at frame) o) (λ old. length new ≡ length old) → PutsAt f new frame
puts_at_span f new frame None is fits = absurd fits
puts_at_span f new frame (Some s) is fits =
    let inside = found_inside f frame s is in
    record { at = s; found = is; len = fits ∙ length-take-le s.len (drop s.at frame) (omega (arith, length-drop s.at frame)); inside = inside }

pub puts_at : (f : Field) (new frame : List ℕ) → f ≢ Tag → Fits f new frame → PutsAt f new frame
puts_at Tag new frame no_tag fits = absurd (no_tag refl)
puts_at LinkDst new frame no_tag fits = puts_at_span LinkDst new frame (span LinkDst frame) refl fits
puts_at LinkSrc new frame no_tag fits = puts_at_span LinkSrc new frame (span LinkSrc frame) refl fits
puts_at Tos new frame no_tag fits = puts_at_span Tos new frame (span Tos frame) refl fits
puts_at Ttl new frame no_tag fits = puts_at_span Ttl new frame (span Ttl frame) refl fits
puts_at SrcIp new frame no_tag fits = puts_at_span SrcIp new frame (span SrcIp frame) refl fits
puts_at DstIp new frame no_tag fits = puts_at_span DstIp new frame (span DstIp frame) refl fits
puts_at SrcPort new frame no_tag fits = puts_at_span SrcPort new frame (span SrcPort frame) refl fits
puts_at DstPort new frame no_tag fits = puts_at_span DstPort new frame (span DstPort frame) refl fits
puts_at Payload new frame no_tag fits = puts_at_span Payload new frame (span Payload frame) refl fits

pub put_is : (f : Field) (new frame : List ℕ) (s : Span) → f ≢ Tag → span f frame ≡ Some s → put f new frame ≡ overwritten s.at new frame
put_is Tag new frame s no_tag is = absurd (no_tag refl)
put_is LinkDst new frame s no_tag is = ap (λ (o : Option Span). put_at o new frame) is
put_is LinkSrc new frame s no_tag is = ap (λ (o : Option Span). put_at o new frame) is
put_is Tos new frame s no_tag is = ap (λ (o : Option Span). put_at o new frame) is
put_is Ttl new frame s no_tag is = ap (λ (o : Option Span). put_at o new frame) is
put_is SrcIp new frame s no_tag is = ap (λ (o : Option Span). put_at o new frame) is
put_is DstIp new frame s no_tag is = ap (λ (o : Option Span). put_at o new frame) is
put_is SrcPort new frame s no_tag is = ap (λ (o : Option Span). put_at o new frame) is
put_is DstPort new frame s no_tag is = ap (λ (o : Option Span). put_at o new frame) is
put_is Payload new frame s no_tag is = ap (λ (o : Option Span). put_at o new frame) is

pub put_keeps : (f : Field) (new frame : List ℕ) → f ≢ Tag → Fits f new frame → KeepsPlaces frame (put f new frame)
put_keeps f new frame no_tag fits =
    let p = puts_at f new frame no_tag fits in
    subst (λ (g : List ℕ). KeepsPlaces frame g) (sym (put_is f new frame p.at no_tag p.found)) (keeps f p.at new frame no_tag p.found p.len)

pub layout_of-put : (f : Field) (new frame : List ℕ) → f ≢ Tag → Fits f new frame → layout_of (put f new frame) ≡ layout_of frame
layout_of-put f new frame no_tag fits = layout-same frame (put f new frame) (put_keeps f new frame no_tag fits)

own_bytes : (f : Field) (new frame : List ℕ) → f ≢ Tag → Fits f new frame → value f (put f new frame) ≡ Some new
own_bytes f new frame no_tag fits =
    let p = puts_at f new frame no_tag fits in
    let s = p.at in
    let inside : s.at + length new ≤ length frame = let i = p.inside in let l = p.len in omega arith in
    ap (λ (o : Option Span). option_map (bytes_at (put f new frame)) o) (span-same f frame (put f new frame) (put_keeps f new frame no_tag fits) ∙ p.found)
    ∙ ap (λ (xs : List ℕ). Some xs) (cong2 (λ (xs : List ℕ) (n : ℕ). take n (drop s.at xs)) (put_is f new frame s no_tag p.found) (sym p.len) ∙ bytes_same s.at new frame inside)

other_by : (f g : Field) (new frame : List ℕ) (o : Option Span) → f ≢ g → (p : PutsAt f new frame) → span g frame ≡ o → option_map (bytes_at (overwritten p.at.at new frame)) o ≡ option_map (bytes_at frame) o
other_by f g new frame None differ p is = refl
other_by f g new frame (Some t) differ p is =
    ap (λ (xs : List ℕ). Some xs) (bytes_apart p.at t new frame p.len p.inside (apart_in_frame f g frame p.at t differ (lies_at f frame p.at p.found) (lies_at g frame t is)))

other_bytes : (f g : Field) (new frame : List ℕ) → f ≢ Tag → f ≢ g → Fits f new frame → value g (put f new frame) ≡ value g frame
other_bytes f g new frame no_tag differ fits =
    let p = puts_at f new frame no_tag fits in
    ap (λ (o : Option Span). option_map (bytes_at (put f new frame)) o) (span-same g frame (put f new frame) (put_keeps f new frame no_tag fits))
    ∙ (ap (λ (xs : List ℕ). option_map (bytes_at xs) (span g frame)) (put_is f new frame p.at no_tag p.found) ∙ other_by f g new frame (span g frame) differ p refl)

-- the bytes of a field as a function of the parts of its frame
abbrev pub parts_value : Field → List ℕ → List ℕ → List ℕ → Option (List ℕ)
parts_value LinkDst addresses tags p = Some (take 6 addresses)
parts_value LinkSrc addresses tags p = Some (take 6 (drop 6 addresses))
parts_value Tag addresses tags p = Some tags
parts_value f addresses tags p = packet_value f p

link_span : (at : ℕ) (frame : List ℕ) → at + 6 ≤ length frame → span_within true (length frame) at 6 ≡ Some (record { at = at; len = 6 })
link_span at frame long = cond-true (nat_le (at + 6) (length frame)) (Some (record { at = at; len = 6 })) None (le-leb (at + 6) (length frame) long)

sixth : (frame : List ℕ) → drop 6 (take 12 frame) ≡ take 6 (drop 6 (take 12 frame))
sixth frame = sym (take_all 6 (drop 6 (take 12 frame)) (omega (arith, length-drop 6 (take 12 frame), length-take 12 frame)))

value-own_parts : (f : Field) (frame : List ℕ) → 14 ≤ length frame → value f frame ≡ parts_value f (take 12 frame) (tags_of frame) (packet frame)
value-own_parts LinkDst frame long =
    ap (λ (o : Option Span). option_map (bytes_at frame) o) (link_span 0 frame (omega arith)) ∙ ap (λ (xs : List ℕ). Some xs) (sym (take-take 6 12 frame (omega arith)))
value-own_parts LinkSrc frame long =
    ap (λ (o : Option Span). option_map (bytes_at frame) o) (link_span 6 frame (omega arith)) ∙ ap (λ (xs : List ℕ). Some xs) (sym (drop-take 6 6 frame) ∙ sixth frame)
value-own_parts Tag frame long =
    ap (λ (o : Option ℕ). option_map (bytes_at frame) (option_map (λ (t : ℕ). record { at = 12; len = t - 12 }) o)) (cond-true (nat_le 14 (length frame)) (Some (tags_len (drop 12 frame) + 12)) None (le-leb 14 (length frame) long))
    ∙ ap (λ (n : ℕ). Some (take n (drop 12 frame))) (omega arith)
value-own_parts Tos frame long = value-packet Tos frame tt
value-own_parts Ttl frame long = value-packet Ttl frame tt
value-own_parts SrcIp frame long = value-packet SrcIp frame tt
value-own_parts DstIp frame long = value-packet DstIp frame tt
value-own_parts SrcPort frame long = value-packet SrcPort frame tt
value-own_parts DstPort frame long = value-packet DstPort frame tt
value-own_parts Payload frame long = value-packet Payload frame tt

pub value-parts : (f : Field) (addresses tags p frame : List ℕ) → HasParts addresses tags p frame → value f frame ≡ parts_value f addresses tags p
value-parts f addresses tags p frame h =
    value-own_parts f frame h.long ∙ cong3 (λ (a t q : List ℕ). parts_value f a t q) h.addresses_are h.tags_are h.packet_is

pub long_from_tags : (frame : List ℕ) → IsSome (value Tag frame) → 14 ≤ length frame
long_from_tags frame there =
    ⊎_elim
    (λ (short : length frame < 14). absurd (false≢true (sym (ap (λ (b : Bool). is_some (option_map (bytes_at frame) (option_map (λ (t : ℕ). record { at = 12; len = t - 12 }) (if b then Some (tags_len (drop 12 frame) + 12) else None)))) (lt-leb 14 (length frame) short)) ∙ there)))
    (λ (long : 14 ≤ length frame). long)
    (cases_lt (length frame) 14)

-- a frame with other tags
pub retagged : (tags frame : List ℕ) → 14 ≤ length frame → is_tag_list tags ≡ true → HasParts (take 12 frame) tags (packet frame) (with_tags tags frame)
retagged tags frame long whole =
    let f = framed frame long in
    parts (take 12 frame) tags (packet frame) (with_tags tags frame) (record { joined = refl; addresses_len = f.addresses_len; whole_tags = whole; has_type = f.has_type; ends = f.ends })

pub own_parts : (frame : List ℕ) → 14 ≤ length frame → HasParts (take 12 frame) (tags_of frame) (packet frame) frame
own_parts frame long = parts (take 12 frame) (tags_of frame) (packet frame) frame (framed frame long)

other_parts : (g : Field) (a t u p : List ℕ) → Tag ≢ g → parts_value g a t p ≡ parts_value g a u p
other_parts Tag a t u p differ = absurd (differ refl)
other_parts LinkDst a t u p differ = refl
other_parts LinkSrc a t u p differ = refl
other_parts Tos a t u p differ = refl
other_parts Ttl a t u p differ = refl
other_parts SrcIp a t u p differ = refl
other_parts DstIp a t u p differ = refl
other_parts SrcPort a t u p differ = refl
other_parts DstPort a t u p differ = refl
other_parts Payload a t u p differ = refl

-- the field that was put has the new value
pub value-put_own : (f : Field) (new frame : List ℕ) → Fits f new frame → value f (put f new frame) ≡ Some new
value-put_own Tag new frame fits = value-parts Tag (take 12 frame) new (packet frame) (with_tags new frame) (retagged new frame (long_from_tags frame fits.0) fits.1)
value-put_own LinkDst new frame fits = own_bytes LinkDst new frame (λ e. cc) fits
value-put_own LinkSrc new frame fits = own_bytes LinkSrc new frame (λ e. cc) fits
value-put_own Tos new frame fits = own_bytes Tos new frame (λ e. cc) fits
value-put_own Ttl new frame fits = own_bytes Ttl new frame (λ e. cc) fits
value-put_own SrcIp new frame fits = own_bytes SrcIp new frame (λ e. cc) fits
value-put_own DstIp new frame fits = own_bytes DstIp new frame (λ e. cc) fits
value-put_own SrcPort new frame fits = own_bytes SrcPort new frame (λ e. cc) fits
value-put_own DstPort new frame fits = own_bytes DstPort new frame (λ e. cc) fits
value-put_own Payload new frame fits = own_bytes Payload new frame (λ e. cc) fits

-- every other field stays
pub value-put_other : (f g : Field) (new frame : List ℕ) → f ≢ g → Fits f new frame → value g (put f new frame) ≡ value g frame
value-put_other Tag g new frame differ fits =
    let long = long_from_tags frame fits.0 in
    value-parts g (take 12 frame) new (packet frame) (with_tags new frame) (retagged new frame long fits.1) ∙ (other_parts g (take 12 frame) new (tags_of frame) (packet frame) differ ∙ sym (value-own_parts g frame long))
value-put_other LinkDst g new frame differ fits = other_bytes LinkDst g new frame (λ e. cc) differ fits
value-put_other LinkSrc g new frame differ fits = other_bytes LinkSrc g new frame (λ e. cc) differ fits
value-put_other Tos g new frame differ fits = other_bytes Tos g new frame (λ e. cc) differ fits
value-put_other Ttl g new frame differ fits = other_bytes Ttl g new frame (λ e. cc) differ fits
value-put_other SrcIp g new frame differ fits = other_bytes SrcIp g new frame (λ e. cc) differ fits
value-put_other DstIp g new frame differ fits = other_bytes DstIp g new frame (λ e. cc) differ fits
value-put_other SrcPort g new frame differ fits = other_bytes SrcPort g new frame (λ e. cc) differ fits
value-put_other DstPort g new frame differ fits = other_bytes DstPort g new frame (λ e. cc) differ fits
value-put_other Payload g new frame differ fits = other_bytes Payload g new frame (λ e. cc) differ fits

-- the result of the writes is `put`
pub record IsPut (f : Field) (new before after : List ℕ) : Type 0 where
  pub written : value f after ≡ Some new
  pub others : (g : Field) → f ≢ g → value g after ≡ value g before
  pub layout : layout_of after ≡ layout_of before

pub is_put : (f : Field) (new before after : List ℕ) (s : Span) → f ≢ Tag → Fits f new before → span f before ≡ Some s → after ≡ overwritten s.at new before → IsPut f new before after
is_put f new before after s no_tag fits found is =
    let same : after ≡ put f new before = is ∙ sym (put_is f new before s no_tag found) in
    record {
      written = ap (λ (frame : List ℕ). value f frame) same ∙ value-put_own f new before fits;
      others = λ g differ. ap (λ (frame : List ℕ). value g frame) same ∙ value-put_other f g new before differ fits;
      layout = ap (λ (frame : List ℕ). layout_of frame) same ∙ layout_of-put f new before no_tag fits;
    }

-- the span that a value fits has its length
pub fits_len : (f : Field) (new frame : List ℕ) (s : Span) → f ≢ Tag → Fits f new frame → span f frame ≡ Some s → length new ≡ s.len
fits_len f new frame s no_tag fits is =
    let p = puts_at f new frame no_tag fits in
    p.len ∙ ap (λ (s : Span). s.len) (same_Some p.at s (sym p.found ∙ is))

-- the result is `with_tags`
pub record IsRetagged (tags before after : List ℕ) : Type 0 where
  pub tags_are : value Tag after ≡ Some tags
  pub others : (g : Field) → Tag ≢ g → value g after ≡ value g before
  pub packet_is : packet after ≡ packet before

pub is_retagged : (tags before after : List ℕ) → IsSome (value Tag before) → is_tag_list tags ≡ true → after ≡ with_tags tags before → IsRetagged tags before after
is_retagged tags before after there whole is =
    let fits : Fits Tag tags before = (there, whole) in
    record {
      tags_are = ap (λ (frame : List ℕ). value Tag frame) is ∙ value-put_own Tag tags before fits;
      others = λ g differ. ap (λ (frame : List ℕ). value g frame) is ∙ value-put_other Tag g tags before differ fits;
      packet_is = ap (λ (frame : List ℕ). packet frame) is ∙ (retagged tags before (long_from_tags before there) whole).packet_is;
    }
