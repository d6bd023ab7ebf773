-- Every span lies within what was captured.
use Rattle.std.proofs.Common.{◌≡◌, ◌≤◌, ◌+◌, ◌-◌, ℕ, List, length, Bool, true, false, ◌&&◌, get_or, drop, ◌∙◌, sym, ap, refl, arith, subst, ◌⊎◌, inl, inr}
use Rattle.std.specs.Prelude.{⊤, Option, Some, None, IfSome, option_map, if◌then◌else◌, nat_le}
use Rattle.std.proofs.lemmas.Bool.{and_parts, leb-true, cond_both}
use Rattle.std.proofs.Common.{length-drop}
use Rattle.packet_fields.specs.Frames.{packet_at, packet, tags_len}
use Rattle.packet_fields.proofs.TagWalk.{packet_at-long, packet_at-inside, has_type, tags_len-whole}
use Rattle.std.proofs.lemmas.Option.{IfSome_then, MatchOption-at_some}
use Rattle.packet_fields.specs.Packets.{span_within, in_header, is_ipv4, is_ipv6, has_header, source_at, destination_at, ttl_at, address_len, has_transport, segment_at, in_segment, datagram_end, data_span, has_data, data_at}
use Rattle.packet_fields.specs.Fields.{packet_span, moved, in_frame, span, tag_span, layout_of, number_of, IsLengthOf}
use Rattle.packet_fields.specs.declared.field.Field.{Field}
use Rattle.packet_fields.specs.declared.field.Field.TheVariants.{LinkDst, LinkSrc, Tag, Tos, Ttl, SrcIp, DstIp, SrcPort, DstPort, Payload}
use Rattle.packet_fields.specs.declared.plan.Span.{Span}
use Rattle.packet_fields.specs.declared.plan.Layout.{Layout}

pub if_some : {A : Type 0} (b : Bool) (x : A) (P : A → Type 0) → (b ≡ true → P x) → IfSome (if b then Some x else None) P
if_some true x P h = h refl
if_some false x P h = tt

pub span_within-inside : (there : Bool) (limit at len n : ℕ) → limit ≤ n → IfSome (span_within there limit at len) (λ s. s.at + s.len ≤ n)
span_within-inside there limit at len n below =
    if_some _ _ _ (λ e. let inside : at + len ≤ limit = leb-true (at + len) limit ((and_parts there (nat_le (at + len) limit) e).1) in omega arith)

pub data_span-inside : (p : List ℕ) → IfSome (data_span p) (λ s. s.at + s.len ≤ length p)
data_span-inside p =
    if_some _ _ _ (λ e. let inside : data_at p ≤ datagram_end p = leb-true (data_at p) (datagram_end p) ((and_parts (has_data p) (nat_le (data_at p) (datagram_end p)) e).1) in omega arith)

pub packet_span-inside : (f : Field) (p : List ℕ) → IfSome (packet_span f p) (λ s. s.at + s.len ≤ length p)
packet_span-inside LinkDst p = tt
packet_span-inside LinkSrc p = tt
packet_span-inside Tag p = tt
packet_span-inside Tos p = span_within-inside (is_ipv4 p) (length p) 3 1 (length p) (omega arith)
packet_span-inside Ttl p = span_within-inside (has_header p) (length p) (in_header (ttl_at p)) 1 (length p) (omega arith)
packet_span-inside SrcIp p = span_within-inside (has_header p) (length p) (in_header (source_at p)) (address_len p) (length p) (omega arith)
packet_span-inside DstIp p = span_within-inside (has_header p) (length p) (in_header (destination_at p)) (address_len p) (length p) (omega arith)
packet_span-inside SrcPort p = span_within-inside (has_transport p) (datagram_end p) (in_segment p 0) 2 (length p) (omega arith)
packet_span-inside DstPort p = span_within-inside (has_transport p) (datagram_end p) (segment_at p + 2) 2 (length p) (omega arith)
packet_span-inside Payload p = data_span-inside p

pub some_moved : (o : Option Span) (by : ℕ) (P : Span → Type 0) → IfSome o (λ s. P (moved by s)) → IfSome (option_map (moved by) o) P
some_moved None by P h = tt
some_moved (Some s) by P h = h

pub in_frame-inside : (f : Field) (frame : List ℕ) → IfSome (in_frame frame (packet_span f (packet frame))) (λ s. s.at + s.len ≤ length frame)
in_frame-inside f frame =
    some_moved (packet_span f (packet frame)) (packet_at frame) _ (IfSome_then (packet_span f (packet frame)) (packet_span-inside f (packet frame)) (λ s inside. omega (arith, length-drop (packet_at frame) frame, packet_at-inside frame)))

pub map_cond : {A B : Type 0} (b : Bool) (x : A) (f : A → B) (P : B → Type 0) → (b ≡ true → P (f x)) → IfSome (option_map f (if b then Some x else None)) P
map_cond true x f P h = h refl
map_cond false x f P h = tt

pub always : {A : Type 0} (o : Option A) → IfSome o (λ _. ⊤)
always None = tt
always (Some x) = tt

pub some_tags : (frame : List ℕ) (P : Span → Type 0) → (14 ≤ length frame → P (record { at = 12; len = packet_at frame - 12 })) → IfSome (tag_span frame) P
some_tags frame P h =
    map_cond (nat_le 14 (length frame)) (tags_len (drop 12 frame) + 12) (λ t. record { at = 12; len = t - 12 }) P (λ e. let long : 14 ≤ length frame = leb-true 14 (length frame) e in let here = h long in rw (packet_at-long frame long) at here)

pub tag_span-inside : (frame : List ℕ) → IfSome (tag_span frame) (λ s. s.at + s.len ≤ length frame)
tag_span-inside frame = some_tags frame _ (λ long. let t = has_type frame long in omega arith)

pub span-inside : (f : Field) (frame : List ℕ) → IfSome (span f frame) (λ s. s.at + s.len ≤ length frame)
span-inside LinkDst frame = span_within-inside true (length frame) 0 6 (length frame) (omega arith)
span-inside LinkSrc frame = span_within-inside true (length frame) 6 6 (length frame) (omega arith)
span-inside Tag frame = tag_span-inside frame
span-inside Tos frame = in_frame-inside Tos frame
span-inside Ttl frame = in_frame-inside Ttl frame
span-inside SrcIp frame = in_frame-inside SrcIp frame
span-inside DstIp frame = in_frame-inside DstIp frame
span-inside SrcPort frame = in_frame-inside SrcPort frame
span-inside DstPort frame = in_frame-inside DstPort frame
span-inside Payload frame = in_frame-inside Payload frame

pub span_within-len : (there : Bool) (limit at len : ℕ) → IfSome (span_within there limit at len) (λ s. s.len ≡ len)
span_within-len there limit at len = if_some (there && nat_le (at + len) limit) (record { at = at; len = len }) (λ (s : Span). s.len ≡ len) (λ e. refl)

address_lengths : (p : List ℕ) → (address_len p ≡ 4) ⊎ (address_len p ≡ 16)
address_lengths p = cond_both (is_ipv6 p) 16 4 (λ (n : ℕ). (n ≡ 4) ⊎ (n ≡ 16)) (λ _. inr refl) (λ _. inl refl)

address-len : (p : List ℕ) (at : ℕ) → IfSome (span_within (has_header p) (length p) at (address_len p)) (λ s. (s.len ≡ 4) ⊎ (s.len ≡ 16))
address-len p at = IfSome_then (span_within (has_header p) (length p) at (address_len p)) (span_within-len (has_header p) (length p) at (address_len p)) (λ s is. subst (λ (n : ℕ). (n ≡ 4) ⊎ (n ≡ 16)) (sym is) (address_lengths p))

pub span-len : (f : Field) (frame : List ℕ) → IfSome (span f frame) (λ s. IsLengthOf f s.len)
span-len LinkDst frame = span_within-len true (length frame) 0 6
span-len LinkSrc frame = span_within-len true (length frame) 6 6
span-len Tag frame = some_tags frame _ (λ long. let whole = tags_len-whole (drop 12 frame) in rw (packet_at-long frame long) (omega arith))
span-len Tos frame = some_moved (packet_span Tos (packet frame)) (packet_at frame) _ (span_within-len (is_ipv4 (packet frame)) (length (packet frame)) 3 1)
span-len Ttl frame = some_moved (packet_span Ttl (packet frame)) (packet_at frame) _ (span_within-len (has_header (packet frame)) (length (packet frame)) (in_header (ttl_at (packet frame))) 1)
span-len SrcIp frame = some_moved (packet_span SrcIp (packet frame)) (packet_at frame) _ (address-len (packet frame) (in_header (source_at (packet frame))))
span-len DstIp frame = some_moved (packet_span DstIp (packet frame)) (packet_at frame) _ (address-len (packet frame) (in_header (destination_at (packet frame))))
span-len SrcPort frame = some_moved (packet_span SrcPort (packet frame)) (packet_at frame) _ (span_within-len (has_transport (packet frame)) (datagram_end (packet frame)) (in_segment (packet frame) 0) 2)
span-len DstPort frame = some_moved (packet_span DstPort (packet frame)) (packet_at frame) _ (span_within-len (has_transport (packet frame)) (datagram_end (packet frame)) (segment_at (packet frame) + 2) 2)
span-len Payload frame = always (span Payload frame)

pub spans-at : (f : Field) (frame : List ℕ) (d : Option Span) → get_or (layout_of frame).spans (number_of f) d ≡ span f frame
spans-at LinkDst frame d = refl
spans-at LinkSrc frame d = refl
spans-at Tag frame d = refl
spans-at Tos frame d = refl
spans-at Ttl frame d = refl
spans-at SrcIp frame d = refl
spans-at DstIp frame d = refl
spans-at SrcPort frame d = refl
spans-at DstPort frame d = refl
spans-at Payload frame d = refl

-- the span that a plan holds for a field is the field's own
pub found : (f : Field) (frame : List ℕ) (plan : Layout) (n : ℕ) (s : Span) → plan ≡ layout_of frame → n ≡ number_of f → get_or plan.spans n None ≡ Some s → span f frame ≡ Some s
found f frame plan n s own is_number at =
    sym (spans-at f frame None) ∙ (ap (λ (p : Layout). get_or p.spans (number_of f) None) (sym own) ∙ (ap (λ (k : ℕ). get_or plan.spans k None) (sym is_number) ∙ at))

pub found_inside : (f : Field) (frame : List ℕ) (s : Span) → span f frame ≡ Some s → s.at + s.len ≤ length frame
found_inside f frame s is = MatchOption-at_some ⊤ (λ s. s.at + s.len ≤ length frame) s is (span-inside f frame)

pub value-len : (f : Field) (frame : List ℕ) (s : Span) → span f frame ≡ Some s → IsLengthOf f s.len
value-len f frame s is = MatchOption-at_some ⊤ (λ s. IsLengthOf f s.len) s is (span-len f frame)
