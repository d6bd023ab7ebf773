-- What sealing leaves unchanged.
use Rattle.std.proofs.Common.{◌≡◌, ◌≤◌, ◌<◌, ◌+◌, ◌∙◌, ℕ, List, [], ◌∷◌, ◌++◌, length, take, get_or, length-drop, length-append, Bool, true, false, ◌&&◌, sym, ap, refl, arith, subst, ⊎_elim, inl, inr}
use Rattle.std.specs.Prelude.{Option, Some, None, if◌then◌else◌, ◌==◌, option_map}
use Rattle.std.proofs.lemmas.Bool.{and_parts, or_parts, or_from, cases_lt, cases_Bool, eqb-true, cond-true, cond-false, and_left, and_right, false≢true}
use Rattle.std.proofs.lemmas.List.{append_assoc, take_at, take-append-drop}
use Rattle.packet_fields.specs.Frames.{word, packet_at, packet, tags_of}
use Rattle.packet_fields.specs.Packets.{is_ipv4, is_ipv6, has_header, header_len, is_udp, segment_at, header_sum_at, checksum_at, segment_sum_at}
use Rattle.packet_fields.specs.Plans.{header_plan_of, segment_plan_of}
use Rattle.packet_fields.specs.Fields.{value, bytes_at, packet_span}
use Rattle.packet_fields.specs.Checksums.{word_bytes, adjusted, header_words, word_put, header_sealed, segment_checksum, segment_sealed, same_span, same_number, same_header_plan, same_segment_plan, has_same_version, has_same_places, packet_sealed, sealed}
use Rattle.packet_fields.specs.Writing.{overwritten}
use Rattle.packet_fields.specs.declared.field.Field.{Field}
use Rattle.packet_fields.specs.declared.field.Field.TheVariants.{LinkDst, LinkSrc, Tag, Tos, Ttl, SrcIp, DstIp, SrcPort, DstPort, Payload}
use Rattle.packet_fields.specs.declared.plan.Span.{Span}
use Rattle.packet_fields.proofs.Versions.{is_ipv4-alone, SameVersion, same_version, Numbers, numbers, segment_at-transport}
use Rattle.packet_fields.proofs.Shapes.{SameShape, OutsideAll, outside_behind, shape_outside, InBounds, bounds_at, Apart, bytes_apart, packet_value, packet_span-same, is_ipv6-same, same_header, segment_at-same, has_transport-same, is_udp-same, is_tcp-same, segment_sum_at-same}
use Rattle.packet_fields.proofs.ChecksumSteps.{header_sum_is, HasSum, has_sum}
use Rattle.packet_fields.proofs.TagWalk.{packet_at-short}
use Rattle.packet_fields.proofs.Framing.{framed, parts, HasParts}
use Rattle.packet_fields.proofs.OverwrittenField.{begins_tag-same}
use Rattle.packet_fields.proofs.Puts.{parts_value, value-parts, own_parts}

-- what the test of two packets shows
pub record SamePlaces (p q : List ℕ) : Type 0 where
  pub version : SameVersion p q
  pub len : length p ≡ length q
  pub header : header_len p ≡ header_len q
  pub header_sum : header_sum_at p ≡ header_sum_at q
  pub segment_sum : segment_sum_at p ≡ segment_sum_at q

pub number_from : (a b : Option ℕ) → same_number a b ≡ true → a ≡ b
number_from None None same = refl
number_from None (Some n) same = absurd (false≢true same)
number_from (Some m) None same = absurd (false≢true same)
number_from (Some m) (Some n) same = ap (λ (x : ℕ). Some x) (eqb-true m n same)

last_of_header : (a b c d : Option Span) (e f g : Bool) (a' b' c' d' : Option Span) → (same_span a a' && (same_span b b' && (same_span c c' && (same_span d d' && (e && (f && g)))))) ≡ true → g ≡ true
last_of_header a b c d e f g a' b' c' d' test =
    let r1 = (and_parts (same_span a a') (same_span b b' && (same_span c c' && (same_span d d' && (e && (f && g))))) test).1 in
    let r2 = (and_parts (same_span b b') (same_span c c' && (same_span d d' && (e && (f && g)))) r1).1 in
    let r3 = (and_parts (same_span c c') (same_span d d' && (e && (f && g))) r2).1 in
    let r4 = (and_parts (same_span d d') (e && (f && g)) r3).1 in
    let r5 = (and_parts e (f && g) r4).1 in
    (and_parts f g r5).1

last_of_five : (x y z u v : Bool) → (x && (y && (z && (u && v)))) ≡ true → v ≡ true
last_of_five x y z u v test =
    let r1 = (and_parts x (y && (z && (u && v))) test).1 in
    let r2 = (and_parts y (z && (u && v)) r1).1 in
    let r3 = (and_parts z (u && v) r2).1 in
    (and_parts u v r3).1

pub same_places : (p q : List ℕ) → has_same_places p q ≡ true → SamePlaces p q
unfolding has_same_places
same_places p q test =
    let hs = same_header_plan (header_plan_of p) (header_plan_of q) in
    let ss = same_segment_plan (segment_plan_of p) (segment_plan_of q) in
    let a = and_parts (has_same_version p q) ((length p == length q) && ((header_len p == header_len q) && (hs && ss))) test in
    let c = and_parts (length p == length q) ((header_len p == header_len q) && (hs && ss)) a.1 in
    let d = and_parts (header_len p == header_len q) (hs && ss) c.1 in
    let e = and_parts hs ss d.1 in
    let hp = header_plan_of p in
    let hq = header_plan_of q in
    let sp = segment_plan_of p in
    let sq = segment_plan_of q in
    let last = last_of_header hp.tos hp.ttl hp.src_ip hp.dst_ip (same_number hp.proto hq.proto) (same_number hp.total_len hq.total_len) (same_number hp.sum_at hq.sum_at) hq.tos hq.ttl hq.src_ip hq.dst_ip e.0 in
    let sums = last_of_five (same_span sp.src_port sq.src_port) (same_span sp.dst_port sq.dst_port) (same_span sp.payload sq.payload) (same_number sp.control_bits sq.control_bits) (same_number sp.sum_at sq.sum_at) e.1 in
    record {
      version = same_version p q a.0;
      len = eqb-true (length p) (length q) c.0;
      header = eqb-true (header_len p) (header_len q) d.0;
      header_sum = number_from (header_sum_at p) (header_sum_at q) last;
      segment_sum = number_from (segment_sum_at p) (segment_sum_at q) sums;
    }

-- a checksum in its place
abbrev pub sum_span : ℕ → Span
sum_span at = record { at = at; len = 2 }

header_sum_outside : (p : List ℕ) → OutsideAll p (sum_span 12)
header_sum_outside p =
    let n = numbers p in
    outside_behind p (sum_span 12) (omega arith) (λ _. inl (omega arith)) (λ _. inl (omega arith)) (λ there _. let far = segment_at-transport p there in inr (omega arith)) (λ there _. let far = segment_at-transport p there in inr (omega arith)) (λ there _. let far = segment_at-transport p there in (inr (omega arith), inr (omega arith)))

tcp_place : (p : List ℕ) → is_udp p ≡ false → checksum_at p ≡ segment_at p + 16
tcp_place p not_udp = cond-false (is_udp p) (segment_at p + 6) (segment_at p + 16) not_udp

segment_sum_outside : (p : List ℕ) (at : ℕ) → HasSum p at → OutsideAll p (sum_span at)
segment_sum_outside p at s =
    let far = s.far in
    let behind = s.behind in
    outside_behind p (sum_span at) (omega arith) (λ _. inl (omega arith)) (λ _. inl (omega arith)) (λ there tcp. inl (omega (arith, s.place, tcp_place p tcp))) (λ there tcp. inl (omega (arith, s.place, tcp_place p tcp))) (λ there udp. (inl (omega arith), inl (omega arith)))

-- one checksum written in its place keeps the shape and the fields
pub record KeepsFields (p q : List ℕ) : Type 0 where
  pub shape : SameShape p q
  pub values : (f : Field) → packet_value f q ≡ packet_value f p

pub shape_refl : (p : List ℕ) → SameShape p p
shape_refl p = record { len = refl; byte0 = refl; byte1 = refl; byte2 = refl; byte4 = refl; byte5 = refl; byte6 = refl; byte7 = refl; byte8 = refl; byte9 = λ _. refl; byte11 = λ _. refl; offset = λ _ _. refl; control = λ _ _. refl; own_len = λ _ _. refl }

same_packet : (p q : List ℕ) → q ≡ p → KeepsFields p q
same_packet p q is = subst (λ (r : List ℕ). KeepsFields p r) (sym is) (record { shape = shape_refl p; values = λ f. refl })

apart_value : (f : Field) (p : List ℕ) (s : Span) (new : List ℕ) (o : Option Span) → length new ≡ s.len → s.at + s.len ≤ length p → ((t : Span) → o ≡ Some t → Apart s t) → option_map (bytes_at (overwritten s.at new p)) o ≡ option_map (bytes_at p) o
apart_value f p s new None len inside apart = refl
apart_value f p s new (Some t) len inside apart = ap (λ (xs : List ℕ). Some xs) (bytes_apart s t new p len inside (apart t refl))

keeps_fields : (p : List ℕ) (s : Span) (new : List ℕ) → OutsideAll p s → length new ≡ s.len → s.at + s.len ≤ length p → ((f : Field) (t : Span) → packet_span f p ≡ Some t → Apart s t) → KeepsFields p (overwritten s.at new p)
keeps_fields p s new outside len inside apart =
    let shape = shape_outside p s new outside len inside in
    record {
      shape = shape;
      values = λ f. ap (λ (o : Option Span). option_map (bytes_at (overwritten s.at new p)) o) (packet_span-same f p (overwritten s.at new p) shape) ∙ apart_value f p s new (packet_span f p) len inside (apart f);
    }

header_apart : (f : Field) (p : List ℕ) (t : Span) (n : Numbers (is_ipv6 p)) → n.six ≡ 0 → InBounds f p t → Apart (sum_span 12) t
header_apart LinkDst p t n four b = absurd b
header_apart LinkSrc p t n four b = absurd b
header_apart Tag p t n four b = absurd b
header_apart Tos p t n four b = inr (omega arith)
header_apart Ttl p t n four b = inr (omega arith)
header_apart SrcIp p t n four b = inl (omega arith)
header_apart DstIp p t n four b = inl (omega arith)
header_apart SrcPort p t n four b = inl (omega arith)
header_apart DstPort p t n four b = inl (omega arith)
header_apart Payload p t n four b = inl (omega arith)

pub payload_apart : (p : List ℕ) (at : ℕ) (t : Span) → HasSum p at → InBounds Payload p t → at + 2 ≤ t.at
payload_apart p at t s b =
    ⊎_elim
    (λ (udp : is_udp p ≡ true). omega (arith, b.0, s.place, cond-true (is_udp p) (segment_at p + 6) (segment_at p + 16) udp))
    (λ (tcp : is_udp p ≡ false). omega (arith, b.1 tcp, s.place, tcp_place p tcp))
    (cases_Bool (is_udp p))

segment_apart : (f : Field) (p : List ℕ) (at : ℕ) (t : Span) → HasSum p at → InBounds f p t → Apart (sum_span at) t
segment_apart LinkDst p at t s b = absurd b
segment_apart LinkSrc p at t s b = absurd b
segment_apart Tag p at t s b = absurd b
segment_apart Payload p at t s b = inl (payload_apart p at t s b)
segment_apart Tos p at t s b = let n = numbers p in inr (omega (arith, s.ends, s.behind))
segment_apart Ttl p at t s b = let n = numbers p in inr (omega (arith, s.ends, s.behind))
segment_apart SrcIp p at t s b = let n = numbers p in inr (omega (arith, s.ends, s.behind))
segment_apart DstIp p at t s b = let n = numbers p in inr (omega (arith, s.ends, s.behind))
segment_apart SrcPort p at t s b = inr (omega (arith, s.far, s.behind))
segment_apart DstPort p at t s b = inr (omega (arith, s.far, s.behind))

pub header_put_keeps : (q : List ℕ) (o : Option ℕ) (n : ℕ) → header_sum_at q ≡ o → KeepsFields q (word_put o n q)
header_put_keeps q None n is = same_packet q q refl
header_put_keeps q (Some at) n is =
    let h = header_sum_is q at is in
    subst (λ (k : ℕ). KeepsFields q (overwritten k (word_bytes n) q)) (sym h.0)
    (keeps_fields q (sum_span 12) (word_bytes n) (header_sum_outside q) refl h.1 (λ f t found. let k = numbers q in header_apart f q t k (k.none (is_ipv4-alone q h.2)) (bounds_at f q t found)))

pub segment_put_keeps : (q : List ℕ) (o : Option ℕ) (n : ℕ) → segment_sum_at q ≡ o → KeepsFields q (word_put o n q)
segment_put_keeps q None n is = same_packet q q refl
segment_put_keeps q (Some at) n is =
    let s = has_sum q at is in
    keeps_fields q (sum_span at) (word_bytes n) (segment_sum_outside q at s) refl (omega (arith, s.inside)) (λ f t found. segment_apart f q at t s (bounds_at f q t found))

pub header_keeps : (p q : List ℕ) → SamePlaces p q → KeepsFields q (header_sealed p q)
header_keeps p q same = header_put_keeps q (header_sum_at p) (adjusted (word p 12) (header_words p) (header_words q)) (sym same.header_sum)

pub segment_keeps : (p q : List ℕ) → segment_sum_at p ≡ segment_sum_at q → KeepsFields q (segment_sealed p q)
segment_keeps p q same = segment_put_keeps q (segment_sum_at p) (segment_checksum p q) (sym same)

-- what stays the same after the header is sealed
pub record SameSegment (p q : List ℕ) : Type 0 where
  pub version : SameVersion p q
  pub len : length p ≡ length q
  pub header : header_len p ≡ header_len q
  pub segment_sum : segment_sum_at p ≡ segment_sum_at q

pub after_header : (p q r : List ℕ) → has_same_places p q ≡ true → r ≡ header_sealed p q → SameSegment p r
after_header p q r test is =
    let same = same_places p q test in
    let k = header_keeps p q same in
    let shape = subst (λ (x : List ℕ). SameShape q x) (sym is) k.shape in
    let h = same_header q r shape in
    record {
      version = record { four = same.version.four ∙ sym h.four; six = same.version.six ∙ sym h.six; there = same.version.there };
      len = same.len ∙ sym shape.len;
      header = same.header ∙ sym h.header;
      segment_sum = same.segment_sum ∙ sym (segment_sum_at-same q r shape);
    }

pub shape_trans : (p q r : List ℕ) → SameShape p q → SameShape q r → SameShape p r
shape_trans p q r one two =
    let t = has_transport-same p q one in
    let u = is_udp-same p q one in
    let a = segment_at-same p q one in
    let six = is_ipv6-same p q one in
    record {
      len = two.len ∙ one.len;
      byte0 = two.byte0 ∙ one.byte0;
      byte1 = two.byte1 ∙ one.byte1;
      byte2 = two.byte2 ∙ one.byte2;
      byte4 = two.byte4 ∙ one.byte4;
      byte5 = two.byte5 ∙ one.byte5;
      byte6 = two.byte6 ∙ one.byte6;
      byte7 = two.byte7 ∙ one.byte7;
      byte8 = two.byte8 ∙ one.byte8;
      byte9 = λ four. two.byte9 (six ∙ four) ∙ one.byte9 four;
      byte11 = λ four. two.byte11 (six ∙ four) ∙ one.byte11 four;
      offset = λ there not_udp. subst (λ (n : ℕ). get_or r (n + 12) 0 ≡ get_or q (n + 12) 0) a (two.offset (t ∙ there) (u ∙ not_udp)) ∙ one.offset there not_udp;
      control = λ there tcp. subst (λ (n : ℕ). get_or r (n + 13) 0 ≡ get_or q (n + 13) 0) a (two.control (t ∙ there) (is_tcp-same p q one ∙ tcp)) ∙ one.control there tcp;
      own_len = λ there udp. subst (λ (n : ℕ). word r (n + 4) ≡ word q (n + 4)) a (two.own_len (t ∙ there) (u ∙ udp)) ∙ one.own_len there udp;
    }

-- sealing a packet keeps its shape and its fields
both_keep : (p q r : List ℕ) → KeepsFields p q → KeepsFields q r → KeepsFields p r
both_keep p q r one two = record { shape = shape_trans p q r one.shape two.shape; values = λ f. two.values f ∙ one.values f }

pub packet_keeps_by : (b : Bool) (p q : List ℕ) → has_same_places p q ≡ b → KeepsFields q (if b then segment_sealed p (header_sealed p q) else q)
packet_keeps_by false p q test = same_packet q q refl
packet_keeps_by true p q test =
    let same = same_places p q test in
    let s = after_header p q (header_sealed p q) test refl in
    both_keep q (header_sealed p q) (segment_sealed p (header_sealed p q)) (header_keeps p q same) (segment_keeps p (header_sealed p q) s.segment_sum)

pub packet_sealed_keeps : (p q : List ℕ) → KeepsFields q (packet_sealed p q)
packet_sealed_keeps p q = packet_keeps_by (has_same_places p q) p q refl

front_is : (frame : List ℕ) → 14 ≤ length frame → take (packet_at frame) frame ≡ take 12 frame ++ tags_of frame
front_is frame long =
    let f = framed frame long in
    let h = parts (take 12 frame) (tags_of frame) (packet frame) frame f in
    let len : length (take 12 frame ++ tags_of frame) ≡ packet_at frame = length-append (take 12 frame) (tags_of frame) ∙ omega (arith, f.addresses_len, h.place) in
    ap (λ (xs : List ℕ). take (packet_at frame) xs) (f.joined ∙ sym (append_assoc (take 12 frame) (tags_of frame) (packet frame))) ∙ take_at (take 12 frame ++ tags_of frame) (packet frame) (packet_at frame) len

-- a sealed frame consists of its old addresses and tags and the sealed packet
pub sealed_parts : (before after : List ℕ) → 14 ≤ length after → HasParts (take 12 after) (tags_of after) (packet_sealed (packet before) (packet after)) (sealed before after)
sealed_parts before after long =
    let f = framed after long in
    let h = parts (take 12 after) (tags_of after) (packet after) after f in
    let new = packet_sealed (packet before) (packet after) in
    let k = packet_sealed_keeps (packet before) (packet after) in
    let shape = k.shape in
    parts (take 12 after) (tags_of after) new (sealed before after) (record {
      joined = ap (λ (xs : List ℕ). xs ++ new) (front_is after long) ∙ append_assoc (take 12 after) (tags_of after) new;
      addresses_len = f.addresses_len;
      whole_tags = f.whole_tags;
      has_type = omega (arith, f.has_type, shape.len);
      ends = begins_tag-same (packet after) new shape ∙ f.ends;
    })

pub has_header-nil : (p : List ℕ) → length p ≡ 0 → has_header p ≡ false
unfolding is_ipv4 is_ipv6
has_header-nil [] none = refl
has_header-nil (x ∷ xs) none = absurd (omega arith)

pub sealed_none : (p q : List ℕ) → has_header q ≡ false → packet_sealed p q ≡ q
unfolding has_same_places
sealed_none p q none =
    let gone = or_parts (is_ipv4 q) (is_ipv6 q) none in
    let other : has_same_version p q ≡ false = or_from (is_ipv4 p && is_ipv4 q) (is_ipv6 p && is_ipv6 q) (and_right (is_ipv4 p) (is_ipv4 q) gone.0) (and_right (is_ipv6 p) (is_ipv6 q) gone.1) in
    cond-false (has_same_places p q) (segment_sealed p (header_sealed p q)) q (and_left (has_same_version p q) ((length p == length q) && ((header_len p == header_len q) && (same_header_plan (header_plan_of p) (header_plan_of q) && same_segment_plan (segment_plan_of p) (segment_plan_of q)))) other)

pub sealed_short : (before after : List ℕ) → length after < 14 → sealed before after ≡ after
sealed_short before after short =
    let none : length (packet after) ≡ 0 = omega (arith, length-drop (packet_at after) after, packet_at-short after short) in
    ap (λ (p : List ℕ). take (packet_at after) after ++ p) (sealed_none (packet before) (packet after) (has_header-nil (packet after) none)) ∙ take-append-drop (packet_at after) after

parts_value-packet : (f : Field) (a t p q : List ℕ) → KeepsFields p q → parts_value f a t q ≡ parts_value f a t p
parts_value-packet LinkDst a t p q k = refl
parts_value-packet LinkSrc a t p q k = refl
parts_value-packet Tag a t p q k = refl
parts_value-packet Tos a t p q k = k.values Tos
parts_value-packet Ttl a t p q k = k.values Ttl
parts_value-packet SrcIp a t p q k = k.values SrcIp
parts_value-packet DstIp a t p q k = k.values DstIp
parts_value-packet SrcPort a t p q k = k.values SrcPort
parts_value-packet DstPort a t p q k = k.values DstPort
parts_value-packet Payload a t p q k = k.values Payload

-- sealing changes no field
pub value-sealed : (before after : List ℕ) (f : Field) → value f (sealed before after) ≡ value f after
value-sealed before after f =
    ⊎_elim
    (λ (short : length after < 14). ap (λ (xs : List ℕ). value f xs) (sealed_short before after short))
    (λ (long : 14 ≤ length after).
    value-parts f (take 12 after) (tags_of after) (packet_sealed (packet before) (packet after)) (sealed before after) (sealed_parts before after long)
    ∙ (parts_value-packet f (take 12 after) (tags_of after) (packet after) (packet_sealed (packet before) (packet after)) (packet_sealed_keeps (packet before) (packet after))
    ∙ sym (value-parts f (take 12 after) (tags_of after) (packet after) after (own_parts after long))))
    (cases_lt (length after) 14)
