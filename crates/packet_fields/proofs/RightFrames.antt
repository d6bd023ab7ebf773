-- The sealed frame's checksums are right if the frame's were, and nothing but fields changed.
use Rattle.std.proofs.Common.{◌≡◌, ◌≢◌, ◌≤◌, ◌<◌, ◌+◌, ◌-◌, ◌∙◌, ℕ, List, [], ◌∷◌, sum, length, take, drop, get_or, length-drop, Bool, true, false, ◌&&◌, ◌||◌, sym, ap, refl, arith, subst, ⊎_elim, inl, inr}
use Rattle.std.specs.Prelude.{IfSome, Option, Some, None, IsSome, is_some, option_map, if◌then◌else◌, ◌==◌}
use Rattle.std.proofs.lemmas.Bool.{and_from, or_left, or_right, or_cases, cases_lt, eq-eqb, false≢true}
use Rattle.packet_fields.specs.Frames.{word, packet_at, packet, tags_of}
use Rattle.packet_fields.specs.Packets.{is_ipv4, is_ipv6, has_header, header_len, segment_at, summed_end, summed_span, protocol, total_len, control_bits, header_sum_at, checksum_at, segment_sum_at}
use Rattle.packet_fields.specs.Fields.{bytes_at, span, packet_span}
use Rattle.packet_fields.specs.Writing.{overwritten, put, Fits, put_some, written_in, all_fields, AllFit, rest_of}
use Rattle.packet_fields.specs.Checksums.{folded, words, word_bytes, adjusted, header_words, word_put, header_sealed, segment_checksum, segment_sealed, same_span, same_number, has_same_version, has_same_places, packet_sealed, sealed, IsRight, IsBytes, header_of, HasRightSums}
use Rattle.packet_fields.specs.declared.field.Field.{Field}
use Rattle.packet_fields.specs.declared.field.Field.TheVariants.{LinkDst, LinkSrc, Tag, Tos, Ttl, SrcIp, DstIp, SrcPort, DstPort, Payload}
use Rattle.packet_fields.specs.declared.plan.Span.{Span}
use Rattle.packet_fields.proofs.Overwriting.{cong2, bytes_before, bytes_behind}
use Rattle.packet_fields.proofs.Versions.{numbers, transport_parts}
use Rattle.packet_fields.proofs.Shapes.{SameShape, InBounds, bounds_at, inside_at, shape_kept, Apart, bytes_apart, packet_span-same, is_ipv6-same, SameHeader, same_header, has_transport-same, segment_at-same, is_udp-same, is_tcp-same, total_len-same, protocol-same, control_bits-same, summed_end-same, summed_span-same, segment_len-same, header_sum_at-same, segment_sum_at-same}
use Rattle.packet_fields.proofs.Framing.{parts}
use Rattle.packet_fields.proofs.OverwrittenField.{lies_at, link_packet, writes_packet, InPacketAt}
use Rattle.packet_fields.proofs.Puts.{puts_at, put_is, retagged, long_from_tags}
use Rattle.packet_fields.proofs.Walk.{all_fit_after, blanks, blanks_fit}
use Rattle.packet_fields.proofs.Sealed.{same_places, after_header, header_keeps, header_put_keeps, segment_keeps, segment_put_keeps, sealed_parts, sealed_short, sealed_none, has_header-nil, shape_trans, shape_refl, payload_apart}
use Rattle.packet_fields.proofs.ChecksumSteps.{header_sum_is, HasSum, has_sum}
use Rattle.packet_fields.proofs.TagWalk.{packet_at-short}
use Rattle.packet_fields.proofs.Rightness.{bytes-drop}
use Rattle.packet_fields.proofs.RightSums.{header_stays_right}
use Rattle.packet_fields.proofs.RightSegments.{SameHead, head_end, data_at_sum, IsRightSegment, segment_stays_right}

-- a part of a packet that no field covers
abbrev pub IsNoField : List ℕ → Span → Type 0
IsNoField p t = (f : Field) (s : Span) → packet_span f p ≡ Some s → Apart s t

pub record KeepsPart (p q : List ℕ) (t : Span) : Type 0 where
  pub shape : SameShape p q
  pub part : bytes_at q t ≡ bytes_at p t

same_part_of : (p q : List ℕ) (t : Span) → q ≡ p → KeepsPart p q t
same_part_of p q t is = subst (λ (r : List ℕ). KeepsPart p r t) (sym is) (record { shape = shape_refl p; part = refl })

put_link : (f : Field) (new frame : List ℕ) (t : Span) → f ≢ Tag → (fits : Fits f new frame) → ((s : Span) → span f frame ≡ Some s → s.at + s.len ≤ 12) → KeepsPart (packet frame) (packet (put f new frame)) t
put_link f new frame t no_tag fits front =
    let p = puts_at f new frame no_tag fits in
    same_part_of (packet frame) (packet (put f new frame)) t (ap (λ (xs : List ℕ). packet xs) (put_is f new frame p.at no_tag p.found) ∙ link_packet p.at new frame p.len (front p.at p.found) p.inside)

put_packet : (f : Field) (new frame : List ℕ) (t : Span) → f ≢ Tag → (fits : Fits f new frame) → ((s : Span) → span f frame ≡ Some s → InPacketAt f frame s) → IsNoField (packet frame) t → KeepsPart (packet frame) (packet (put f new frame)) t
put_packet f new frame t no_tag fits in_packet apart =
    let p = puts_at f new frame no_tag fits in
    let w = writes_packet f frame p.at new (in_packet p.at p.found) p.len in
    let at = w.source.at in
    let len_at : length new ≡ at.len = p.len ∙ ap (λ (s : Span). s.len) w.source.moved_is in
    let h = parts (take 12 frame) (tags_of frame) (overwritten at.at new (packet frame)) (overwritten p.at.at new frame) w.framed_is in
    let is : packet (put f new frame) ≡ overwritten at.at new (packet frame) = ap (λ (xs : List ℕ). packet xs) (put_is f new frame p.at no_tag p.found) ∙ h.packet_is in
    subst (λ (r : List ℕ). KeepsPart (packet frame) r t) (sym is) (record {
      shape = shape_kept f (packet frame) at new w.source.found len_at;
      part = bytes_apart at t new (packet frame) len_at (inside_at f (packet frame) at w.source.found) (apart f at w.source.found);
    })

put_part : (f : Field) (new frame : List ℕ) (t : Span) → Fits f new frame → IsNoField (packet frame) t → KeepsPart (packet frame) (packet (put f new frame)) t
put_part LinkDst new frame t fits apart = put_link LinkDst new frame t (λ e. cc) fits (λ s found. let l = lies_at LinkDst frame s found in omega arith)
put_part LinkSrc new frame t fits apart = put_link LinkSrc new frame t (λ e. cc) fits (λ s found. let l = lies_at LinkSrc frame s found in omega arith)
put_part Tag new frame t fits apart = same_part_of (packet frame) (packet (put Tag new frame)) t (retagged new frame (long_from_tags frame fits.0) fits.1).packet_is
put_part Tos new frame t fits apart = put_packet Tos new frame t (λ e. cc) fits (λ s found. lies_at Tos frame s found) apart
put_part Ttl new frame t fits apart = put_packet Ttl new frame t (λ e. cc) fits (λ s found. lies_at Ttl frame s found) apart
put_part SrcIp new frame t fits apart = put_packet SrcIp new frame t (λ e. cc) fits (λ s found. lies_at SrcIp frame s found) apart
put_part DstIp new frame t fits apart = put_packet DstIp new frame t (λ e. cc) fits (λ s found. lies_at DstIp frame s found) apart
put_part SrcPort new frame t fits apart = put_packet SrcPort new frame t (λ e. cc) fits (λ s found. lies_at SrcPort frame s found) apart
put_part DstPort new frame t fits apart = put_packet DstPort new frame t (λ e. cc) fits (λ s found. lies_at DstPort frame s found) apart
put_part Payload new frame t fits apart = put_packet Payload new frame t (λ e. cc) fits (λ s found. lies_at Payload frame s found) apart

some_part : (f : Field) (o : Option (List ℕ)) (frame : List ℕ) (t : Span) → IfSome o (λ new. Fits f new frame) → IsNoField (packet frame) t → KeepsPart (packet frame) (packet (put_some f o frame)) t
some_part f None frame t fits apart = same_part_of (packet frame) (packet frame) t refl
some_part f (Some new) frame t fits apart = put_part f new frame t fits apart

no_field_kept : (p q : List ℕ) (t : Span) → SameShape p q → IsNoField p t → IsNoField q t
no_field_kept p q t shape apart = λ f s found. apart f s (sym (packet_span-same f p q shape) ∙ found)

pub part_in : (fs : List Field) (values : Field → Option (List ℕ)) (frame : List ℕ) (t : Span) → AllFit values frame → IsNoField (packet frame) t → KeepsPart (packet frame) (packet (written_in fs values frame)) t
unfolding written_in
part_in [] values frame t fits apart = same_part_of (packet frame) (packet frame) t refl
part_in (f ∷ fs) values frame t fits apart =
    let one = some_part f (values f) frame t (fits f) apart in
    let next = put_some f (values f) frame in
    let more = part_in fs values next t (all_fit_after values f (values f) frame (fits f) fits) (no_field_kept (packet frame) (packet next) t one.shape apart) in
    record { shape = shape_trans (packet frame) (packet next) (packet (written_in fs values next)) one.shape more.shape; part = more.part ∙ one.part }

rest_part : (frame : List ℕ) (t : Span) → IsNoField (packet frame) t → KeepsPart (packet frame) (packet (rest_of frame)) t
rest_part frame t apart = part_in all_fields (blanks frame) frame t (blanks_fit frame) apart

-- a span of no bytes far back is apart from every field
pub nowhere : (p : List ℕ) → IsNoField p (record { at = length p; len = 0 })
nowhere p = λ f s found. inl (inside_at f p s found)

shape_back : (p q r : List ℕ) → SameShape p r → SameShape q r → SameShape p q
shape_back p q r one two =
    let t = has_transport-same p r one in
    let tq = has_transport-same q r two in
    let u = is_udp-same p r one in
    let uq = is_udp-same q r two in
    let c = is_tcp-same p r one in
    let cq = is_tcp-same q r two in
    let six : is_ipv6 q ≡ is_ipv6 p = sym (is_ipv6-same q r two) ∙ is_ipv6-same p r one in
    let a : segment_at q ≡ segment_at p = sym (segment_at-same q r two) ∙ segment_at-same p r one in
    record {
      len = sym two.len ∙ one.len;
      byte0 = sym two.byte0 ∙ one.byte0;
      byte1 = sym two.byte1 ∙ one.byte1;
      byte2 = sym two.byte2 ∙ one.byte2;
      byte4 = sym two.byte4 ∙ one.byte4;
      byte5 = sym two.byte5 ∙ one.byte5;
      byte6 = sym two.byte6 ∙ one.byte6;
      byte7 = sym two.byte7 ∙ one.byte7;
      byte8 = sym two.byte8 ∙ one.byte8;
      byte9 = λ four. sym (two.byte9 (six ∙ four)) ∙ one.byte9 four;
      byte11 = λ four. sym (two.byte11 (six ∙ four)) ∙ one.byte11 four;
      offset = λ there not_udp. subst (λ (n : ℕ). get_or q (n + 12) 0 ≡ get_or r (n + 12) 0) a (sym (two.offset (sym tq ∙ (t ∙ there)) (sym uq ∙ (u ∙ not_udp)))) ∙ one.offset there not_udp;
      control = λ there tcp. subst (λ (n : ℕ). get_or q (n + 13) 0 ≡ get_or r (n + 13) 0) a (sym (two.control (sym tq ∙ (t ∙ there)) (sym cq ∙ (c ∙ tcp)))) ∙ one.control there tcp;
      own_len = λ there udp. subst (λ (n : ℕ). word q (n + 4) ≡ word r (n + 4)) a (sym (two.own_len (sym tq ∙ (t ∙ there)) (sym uq ∙ (u ∙ udp)))) ∙ one.own_len there udp;
    }

-- frames that differ in nothing but their fields
pub same_rest_shape : (before after : List ℕ) → rest_of before ≡ rest_of after → SameShape (packet before) (packet after)
same_rest_shape before after same =
    let one = rest_part before (record { at = length (packet before); len = 0 }) (nowhere (packet before)) in
    let two = rest_part after (record { at = length (packet after); len = 0 }) (nowhere (packet after)) in
    shape_back (packet before) (packet after) (packet (rest_of before)) one.shape (subst (λ (xs : List ℕ). SameShape (packet after) (packet xs)) (sym same) two.shape)

same_rest_part : (before after : List ℕ) (t : Span) → rest_of before ≡ rest_of after → IsNoField (packet before) t → bytes_at (packet after) t ≡ bytes_at (packet before) t
same_rest_part before after t same apart =
    let shape = same_rest_shape before after same in
    let one = rest_part before t apart in
    let two = rest_part after t (no_field_kept (packet before) (packet after) t shape apart) in
    sym two.part ∙ (ap (λ (xs : List ℕ). bytes_at (packet xs) t) (sym same) ∙ one.part)

span_refl : (o : Option Span) → same_span o o ≡ true
span_refl None = refl
span_refl (Some s) = and_from (s.at == s.at) (s.len == s.len) (eq-eqb s.at s.at refl) (eq-eqb s.len s.len refl)

number_refl : (o : Option ℕ) → same_number o o ≡ true
number_refl None = refl
number_refl (Some n) = eq-eqb n n refl

all7 : {a b c d e f g : Bool} → a ≡ true → b ≡ true → c ≡ true → d ≡ true → e ≡ true → f ≡ true → g ≡ true → (a && (b && (c && (d && (e && (f && g)))))) ≡ true
all7 ea eb ec ed ee ef eg = cc

all5 : {a b c d e : Bool} → a ≡ true → b ≡ true → c ≡ true → d ≡ true → e ≡ true → (a && (b && (c && (d && e)))) ≡ true
all5 ea eb ec ed ee = cc

spans_equal : (f : Field) (p q : List ℕ) → SameShape p q → same_span (packet_span f p) (packet_span f q) ≡ true
spans_equal f p q s = ap (λ (o : Option Span). same_span (packet_span f p) o) (packet_span-same f p q s) ∙ span_refl (packet_span f p)

numbers_equal : (m n : Option ℕ) → n ≡ m → same_number m n ≡ true
numbers_equal m n is = ap (λ (o : Option ℕ). same_number m o) is ∙ number_refl m

version_equal : (p q : List ℕ) → has_header p ≡ true → SameHeader p q → has_same_version p q ≡ true
version_equal p q there h =
    ⊎_elim
    (λ (four : is_ipv4 p ≡ true). or_left (is_ipv4 p && is_ipv4 q) (is_ipv6 p && is_ipv6 q) (and_from (is_ipv4 p) (is_ipv4 q) four (h.four ∙ four)))
    (λ (six : is_ipv6 p ≡ true). or_right (is_ipv4 p && is_ipv4 q) (is_ipv6 p && is_ipv6 q) (and_from (is_ipv6 p) (is_ipv6 q) six (h.six ∙ six)))
    (or_cases (is_ipv4 p) (is_ipv6 p) there)

pub places_same : (p q : List ℕ) → has_header p ≡ true → SameShape p q → has_same_places p q ≡ true
unfolding has_same_places
places_same p q there s =
    let h = same_header p q s in
    all5 (version_equal p q there h) (eq-eqb (length p) (length q) (sym s.len)) (eq-eqb (header_len p) (header_len q) (sym h.header))
    (all7 (spans_equal Tos p q s) (spans_equal Ttl p q s) (spans_equal SrcIp p q s) (spans_equal DstIp p q s) (numbers_equal (protocol p) (protocol q) (protocol-same p q s)) (numbers_equal (total_len p) (total_len q) (total_len-same p q s)) (numbers_equal (header_sum_at p) (header_sum_at q) (header_sum_at-same p q s)))
    (all5 (spans_equal SrcPort p q s) (spans_equal DstPort p q s) (spans_equal Payload p q s) (numbers_equal (control_bits p) (control_bits q) (control_bits-same p q s)) (numbers_equal (segment_sum_at p) (segment_sum_at q) (segment_sum_at-same p q s)))

-- the bytes of a transport header after its ports, except its checksum, are no field
first_apart : (f : Field) (p : List ℕ) (at : ℕ) (s : Span) → HasSum p at → InBounds f p s → Apart s (record { at = segment_at p + 4; len = at - (segment_at p + 4) })
first_apart LinkDst p at s h b = absurd b
first_apart LinkSrc p at s h b = absurd b
first_apart Tag p at s h b = absurd b
first_apart Payload p at s h b = let far = payload_apart p at s h b in inr (omega (arith, far, h.behind))
first_apart Tos p at s h b = let n = numbers p in inl (omega (arith, h.ends))
first_apart Ttl p at s h b = let n = numbers p in inl (omega (arith, h.ends))
first_apart SrcIp p at s h b = let n = numbers p in inl (omega (arith, h.ends))
first_apart DstIp p at s h b = let n = numbers p in inl (omega (arith, h.ends))
first_apart SrcPort p at s h b = inl (omega (arith, h.far))
first_apart DstPort p at s h b = inl (omega (arith, h.far))

second_apart : (f : Field) (p : List ℕ) (at : ℕ) (s : Span) → HasSum p at → InBounds f p s → (f ≡ Payload → at + 2 + (head_end p (summed_span p) - (at + 2)) ≤ s.at) → Apart s (record { at = at + 2; len = head_end p (summed_span p) - (at + 2) })
second_apart LinkDst p at s h b far = absurd b
second_apart LinkSrc p at s h b far = absurd b
second_apart Tag p at s h b far = absurd b
second_apart Payload p at s h b far = inr (far refl)
second_apart Tos p at s h b far = let n = numbers p in inl (omega (arith, h.ends, h.behind))
second_apart Ttl p at s h b far = let n = numbers p in inl (omega (arith, h.ends, h.behind))
second_apart SrcIp p at s h b far = let n = numbers p in inl (omega (arith, h.ends, h.behind))
second_apart DstIp p at s h b far = let n = numbers p in inl (omega (arith, h.ends, h.behind))
second_apart SrcPort p at s h b far = inl (omega (arith, h.far, h.behind))
second_apart DstPort p at s h b far = inl (omega (arith, h.far, h.behind))

payload_end : (p : List ℕ) (at : ℕ) (f : Field) (s : Span) → HasSum p at → packet_span f p ≡ Some s → f ≡ Payload → at + 2 + (head_end p (summed_span p) - (at + 2)) ≤ s.at
payload_end p at f s h found is =
    let here : summed_span p ≡ Some (record { at = s.at; len = summed_end p - s.at }) = ap (λ (o : Option Span). option_map (λ s. record { at = s.at; len = summed_end p - s.at }) o) (ap (λ (g : Field). packet_span g p) (sym is) ∙ found) in
    let d = data_at_sum p at (Some (record { at = s.at; len = summed_end p - s.at })) h here in
    let behind = d.behind in
    let he : head_end p (summed_span p) ≡ s.at = ap (λ (o : Option Span). head_end p o) here in
    omega (arith, behind, he)

same_head : (before after : List ℕ) (at : ℕ) → rest_of before ≡ rest_of after → HasSum (packet before) at → SameHead (packet before) (packet after) at (summed_span (packet before))
same_head before after at same h =
    let p = packet before in
    let shape = same_rest_shape before after same in
    record {
      kind = (same_header (packet before) (packet after) shape).kind;
      len = segment_len-same (packet before) (packet after) shape;
      ends = summed_end-same (packet before) (packet after) shape;
      covered = summed_span-same (packet before) (packet after) shape;
      first = same_rest_part before after (record { at = segment_at p + 4; len = at - (segment_at p + 4) }) same (λ f s found. first_apart f p at s h (bounds_at f p s found));
      second = same_rest_part before after (record { at = at + 2; len = head_end p (summed_span p) - (at + 2) }) same (λ f s found. second_apart f p at s h (bounds_at f p s found) (λ is. payload_end p at f s h found is));
    }

-- sealing the header leaves what follows it
head_behind : (p q : List ℕ) (at : ℕ) (o : Option Span) (n : ℕ) → 22 ≤ segment_at p → segment_at p + 6 ≤ at → 14 ≤ length q → SameShape q (overwritten 12 (word_bytes n) q) → SameHead p q at o → SameHead p (overwritten 12 (word_bytes n) q) at o
head_behind p q at o n far behind long shape head = record {
  kind = (same_header q (overwritten 12 (word_bytes n) q) shape).kind ∙ head.kind;
  len = segment_len-same q (overwritten 12 (word_bytes n) q) shape ∙ head.len;
  ends = summed_end-same q (overwritten 12 (word_bytes n) q) shape ∙ head.ends;
  covered = summed_span-same q (overwritten 12 (word_bytes n) q) shape ∙ head.covered;
  first = bytes_behind 12 (word_bytes n) q (segment_at p + 4) (at - (segment_at p + 4)) long (omega arith) ∙ head.first;
  second = bytes_behind 12 (word_bytes n) q (at + 2) (head_end p o - (at + 2)) long (omega arith) ∙ head.second;
}

-- the sealed header, followed by the sealed segment
header_of_kept : (q : List ℕ) (o : Option ℕ) (n : ℕ) → segment_sum_at q ≡ o → header_of (word_put o n q) ≡ header_of q
header_of_kept q None n is = refl
header_of_kept q (Some at) n is =
    let s = has_sum q at is in
    let far = s.far in
    let behind = s.behind in
    let inside : at + 2 ≤ length q = let i = s.inside in omega arith in
    let len : header_len (overwritten at (word_bytes n) q) ≡ header_len q = (same_header q (overwritten at (word_bytes n) q) (segment_put_keeps q (Some at) n is).shape).header in
    ap (λ (h : ℕ). take h (drop 2 (overwritten at (word_bytes n) q))) len ∙ bytes_before at (word_bytes n) q 2 (header_len q) inside (omega arith)

-- the sums of two packets of one shape
record RightPacket (p : List ℕ) : Type 0 where
  pub header : IsSome (header_sum_at p) → IsRight (words (header_of p))
  pub segment : IsSome (segment_sum_at p) → IsRightSegment p (checksum_at p)

some_at : (o : Option ℕ) → IsSome o → (n : ℕ) × (o ≡ Some n)
some_at None there = absurd (false≢true there)
some_at (Some n) there = (n, refl)

checksum_at-same : (p q : List ℕ) → SameShape p q → checksum_at q ≡ checksum_at p
checksum_at-same p q s = let u = is_udp-same p q s in let a = segment_at-same p q s in cc

sealed_header_right : (p q : List ℕ) → has_same_places p q ≡ true → IsBytes p → RightPacket p → IsSome (header_sum_at q) → IsRight (words (header_of (segment_sealed p (header_sealed p q))))
sealed_header_right p q test bytes right there =
    let same = same_places p q test in
    let at = some_at (header_sum_at p) (ap (λ (o : Option ℕ). is_some o) same.header_sum ∙ there) in
    let h = header_sum_is p at.0 at.1 in
    let after = after_header p q (header_sealed p q) test refl in
    let stays = header_stays_right p q same h.2 bytes h.1 (right.header (ap (λ (o : Option ℕ). is_some o) at.1)) in
    let kept : header_of (segment_sealed p (header_sealed p q)) ≡ header_of (header_sealed p q) = header_of_kept (header_sealed p q) (segment_sum_at p) (segment_checksum p (header_sealed p q)) (sym after.segment_sum) in
    ap (λ (xs : List ℕ). folded (sum (words xs))) kept ∙ stays

header_head : (p q : List ℕ) (at : ℕ) (o : Option Span) (place : Option ℕ) → header_sum_at q ≡ place → 22 ≤ segment_at p → segment_at p + 6 ≤ at → SameHead p q at o → (n : ℕ) → SameHead p (word_put place n q) at o
header_head p q at o None is far behind head n = head
header_head p q at o (Some k) is far behind head n =
    let h = header_sum_is q k is in
    let shape : SameShape q (overwritten 12 (word_bytes n) q) = subst (λ (j : ℕ). SameShape q (overwritten j (word_bytes n) q)) h.0 (header_put_keeps q (Some k) n is).shape in
    subst (λ (j : ℕ). SameHead p (overwritten j (word_bytes n) q) at o) (sym h.0) (head_behind p q at o n far behind h.1 shape head)

sealed_segment_right : (p q : List ℕ) → has_same_places p q ≡ true → SameShape p q → IsBytes p → RightPacket p → ((at : ℕ) → HasSum p at → SameHead p q at (summed_span p)) → IsSome (segment_sum_at q) → IsRightSegment (segment_sealed p (header_sealed p q)) (checksum_at p)
sealed_segment_right p q test shape bytes right heads there =
    let same = same_places p q test in
    let at = some_at (segment_sum_at p) (ap (λ (o : Option ℕ). is_some o) same.segment_sum ∙ there) in
    let s = has_sum p at.0 at.1 in
    let is_at : segment_sum_at p ≡ Some (checksum_at p) = at.1 ∙ ap (λ (n : ℕ). Some n) s.place in
    let here = has_sum p (checksum_at p) is_at in
    let head = header_head p q (checksum_at p) (summed_span p) (header_sum_at p) (sym same.header_sum) here.far here.behind (heads (checksum_at p) here) (adjusted (word p 12) (header_words p) (header_words q)) in
    segment_stays_right p (header_sealed p q) is_at (after_header p q (header_sealed p q) test refl) bytes head (right.segment (ap (λ (o : Option ℕ). is_some o) is_at))

right_sealed : (b : Bool) (p q : List ℕ) → has_same_places p q ≡ b → (has_header q ≡ true → b ≡ true) → SameShape p q → IsBytes p → RightPacket p → ((at : ℕ) → HasSum p at → SameHead p q at (summed_span p)) → RightPacket (if b then segment_sealed p (header_sealed p q) else q)
right_sealed false p q test must shape bytes right heads =
    record {
      header = λ there. let at = some_at (header_sum_at q) there in absurd (false≢true (must (or_left (is_ipv4 q) (is_ipv6 q) (header_sum_is q at.0 at.1).2)));
      segment = λ there. let at = some_at (segment_sum_at q) there in absurd (false≢true (must (transport_parts q (has_sum q at.0 at.1).transport).header));
    }
right_sealed true p q test must shape bytes right heads =
    let r = segment_sealed p (header_sealed p q) in
    let same = same_places p q test in
    let kept : SameShape q r = shape_trans q (header_sealed p q) r (header_keeps p q same).shape (segment_keeps p (header_sealed p q) (after_header p q (header_sealed p q) test refl).segment_sum).shape in
    record {
      header = λ there. sealed_header_right p q test bytes right (sym (ap (λ (o : Option ℕ). is_some o) (header_sum_at-same q r kept)) ∙ there);
      segment = λ there. subst (λ (n : ℕ). IsRightSegment r n) (sym (checksum_at-same q r kept ∙ checksum_at-same p q shape))
          (sealed_segment_right p q test shape bytes right heads (sym (ap (λ (o : Option ℕ). is_some o) (segment_sum_at-same q r kept)) ∙ there));
    }

pub sealed_packet : (before after : List ℕ) → packet (sealed before after) ≡ packet_sealed (packet before) (packet after)
sealed_packet before after =
    ⊎_elim
    (λ (short : length after < 14).
    let none : length (packet after) ≡ 0 = omega (arith, length-drop (packet_at after) after, packet_at-short after short) in
    ap (λ (xs : List ℕ). packet xs) (sealed_short before after short) ∙ sym (sealed_none (packet before) (packet after) (has_header-nil (packet after) none)))
    (λ (long : 14 ≤ length after). (sealed_parts before after long).packet_is)
    (cases_lt (length after) 14)

header_back : (p q : List ℕ) → SameShape p q → has_header q ≡ true → has_same_places p q ≡ true
header_back p q s there = let h = same_header p q s in places_same p q (sym (cong2 (λ (a b : Bool). a || b) h.four h.six) ∙ there) s

-- if a frame's checksums are right, those of the sealed frame are, if the two differ in their fields alone
pub right_sums-sealed : (before after : List ℕ) → IsBytes before → rest_of before ≡ rest_of after → HasRightSums before → HasRightSums (sealed before after)
right_sums-sealed before after bytes same right =
    let p = packet before in
    let q = packet after in
    let shape = same_rest_shape before after same in
    let r = right_sealed (has_same_places p q) p q refl (header_back p q shape) shape (bytes-drop (packet_at before) before bytes) (record { header = right.header; segment = right.segment }) (λ at h. same_head before after at same h) in
    let whole : RightPacket (packet (sealed before after)) = subst (λ (xs : List ℕ). RightPacket xs) (sym (sealed_packet before after)) r in
    record { header = whole.header; segment = whole.segment }
