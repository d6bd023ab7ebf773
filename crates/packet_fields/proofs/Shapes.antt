-- Which bytes of a packet decide where its fields lie, and that no field covers one of them.
use Rattle.std.proofs.Common.{◌≡◌, ◌≤◌, ◌<◌, ◌+◌, ◌-◌, ◌*◌, ◌/◌, ◌%◌, ◌∙◌, ℕ, List, length, get_or, Bool, true, false, ◌&&◌, ◌||◌, nat_eq, min, sym, ap, refl, arith, ◌⊎◌, inl, inr}
use Rattle.std.specs.Prelude.{Option, Some, None, IfSome, ⊤, if◌then◌else◌, nat_le, nat_lt, ◌==◌, option_map}
use Rattle.std.proofs.lemmas.Bool.{and_parts, leb-true, eqb-true, false≢true}
use Rattle.std.proofs.lemmas.Option.{MatchOption-at_some}
use Rattle.packet_fields.specs.Frames.{word}
use Rattle.packet_fields.specs.Packets.{span_within, in_header, header_byte, is_ipv4, is_ipv6, has_header, header_len, address_len, source_at, destination_at, ttl_at, protocol_at, datagram_len, total_len, protocol, is_tcp, is_udp, is_first, has_transport, segment_at, in_segment, datagram_end, data_offset, data_at, has_data, data_span, udp_len, summed_end, summed_span, control_bits, header_sum_at, segment_sum_at}
use Rattle.packet_fields.specs.Checksums.{segment_len}
use Rattle.packet_fields.specs.Fields.{packet_span, bytes_at}
use Rattle.packet_fields.specs.Writing.{overwritten}
use Rattle.packet_fields.specs.declared.field.Field.{Field}
use Rattle.packet_fields.specs.declared.field.Field.TheVariants.{LinkDst, LinkSrc, Tag, Tos, Ttl, SrcIp, DstIp, SrcPort, DstPort, Payload}
use Rattle.packet_fields.specs.declared.plan.Span.{Span}
use Rattle.packet_fields.proofs.Spans.{if_some, packet_span-inside}
use Rattle.packet_fields.proofs.Versions.{by_six, numbers, fields_end, segment_at-transport}
use Rattle.packet_fields.proofs.Overwriting.{cong2, length-overwritten, get_or-before, get_or-behind, bytes_before, bytes_behind}

-- the bytes that decide where fields lie are the same; IPv6's header bytes 9 and 11 belong to fields
pub record SameShape (p q : List ℕ) : Type 0 where
  pub len : length q ≡ length p
  pub byte0 : get_or q 0 0 ≡ get_or p 0 0
  pub byte1 : get_or q 1 0 ≡ get_or p 1 0
  pub byte2 : get_or q 2 0 ≡ get_or p 2 0
  pub byte4 : get_or q 4 0 ≡ get_or p 4 0
  pub byte5 : get_or q 5 0 ≡ get_or p 5 0
  pub byte6 : get_or q 6 0 ≡ get_or p 6 0
  pub byte7 : get_or q 7 0 ≡ get_or p 7 0
  pub byte8 : get_or q 8 0 ≡ get_or p 8 0
  pub byte9 : is_ipv6 p ≡ false → get_or q 9 0 ≡ get_or p 9 0
  pub byte11 : is_ipv6 p ≡ false → get_or q 11 0 ≡ get_or p 11 0
  pub offset : has_transport p ≡ true → is_udp p ≡ false → get_or q (segment_at p + 12) 0 ≡ get_or p (segment_at p + 12) 0
  pub control : has_transport p ≡ true → is_tcp p ≡ true → get_or q (segment_at p + 13) 0 ≡ get_or p (segment_at p + 13) 0
  pub own_len : has_transport p ≡ true → is_udp p ≡ true → word q (segment_at p + 4) ≡ word p (segment_at p + 4)

pub is_ipv4-same : (p q : List ℕ) → SameShape p q → is_ipv4 q ≡ is_ipv4 p
unfolding is_ipv4
is_ipv4-same p q s = cc

pub is_ipv6-same : (p q : List ℕ) → SameShape p q → is_ipv6 q ≡ is_ipv6 p
unfolding is_ipv6
is_ipv6-same p q s = cc

-- what the headers of two such packets share
pub record SameHeader (p q : List ℕ) : Type 0 where
  pub len : length q ≡ length p
  pub four : is_ipv4 q ≡ is_ipv4 p
  pub six : is_ipv6 q ≡ is_ipv6 p
  pub header : header_len q ≡ header_len p
  pub total : datagram_len q ≡ datagram_len p
  pub kind : header_byte q (protocol_at q) ≡ header_byte p (protocol_at p)
  pub first : is_first q ≡ is_first p

pub same_header : (p q : List ℕ) → SameShape p q → SameHeader p q
same_header p q s =
    let six = is_ipv6-same p q s in
    record {
      len = s.len;
      four = is_ipv4-same p q s;
      six = six;
      header = cong2 (λ (b : Bool) (n : ℕ). if b then 40 else 4 * (n % 16)) six s.byte2;
      total = ap (λ (b : Bool). if b then word q 6 + 40 else word q 4) six
          ∙ by_six (λ (b : Bool). (if b then word q 6 + 40 else word q 4) ≡ (if b then word p 6 + 40 else word p 4)) (is_ipv6 p) (λ _. cong2 (λ (m n : ℕ). m * 256 + n + 40) s.byte6 s.byte7) (λ _. cong2 (λ (m n : ℕ). m * 256 + n) s.byte4 s.byte5);
      kind = ap (λ (b : Bool). get_or q (in_header (if b then 6 else 9)) 0) six
          ∙ by_six (λ (b : Bool). get_or q (in_header (if b then 6 else 9)) 0 ≡ get_or p (in_header (if b then 6 else 9)) 0) (is_ipv6 p) (λ _. s.byte8) (λ four. s.byte11 four);
      first = ap (λ (b : Bool). b || (word q 8 % 8192 == 0)) six
          ∙ by_six (λ (b : Bool). (b || (word q 8 % 8192 == 0)) ≡ (b || (word p 8 % 8192 == 0))) (is_ipv6 p) (λ _. refl) (λ four. cong2 (λ (m n : ℕ). (m * 256 + n) % 8192 == 0) s.byte8 (s.byte9 four));
    }

pub has_transport-same : (p q : List ℕ) → SameShape p q → has_transport q ≡ has_transport p
unfolding has_transport
has_transport-same p q s = let h = same_header p q s in cc

pub segment_at-same : (p q : List ℕ) → SameShape p q → segment_at q ≡ segment_at p
segment_at-same p q s = ap (λ (n : ℕ). in_header n) (same_header p q s).header

pub datagram_end-same : (p q : List ℕ) → SameShape p q → datagram_end q ≡ datagram_end p
datagram_end-same p q s = cong2 (λ (m n : ℕ). min m (in_header n)) s.len (same_header p q s).total

pub is_udp-same : (p q : List ℕ) → SameShape p q → is_udp q ≡ is_udp p
is_udp-same p q s = ap (λ (n : ℕ). n == 17) (same_header p q s).kind

pub is_tcp-same : (p q : List ℕ) → SameShape p q → is_tcp q ≡ is_tcp p
is_tcp-same p q s = ap (λ (n : ℕ). n == 6) (same_header p q s).kind

-- the span of the data, as a function of the bytes that decide it
abbrev pub data_span_by : Bool → Bool → ℕ → ℕ → ℕ → Option Span
data_span_by there udp offset start end =
    if (there && (udp || (nat_lt (start + 12) end && nat_le 5 offset))) && nat_le (if udp then start + 8 else 4 * offset + start) end
    then Some (record { at = if udp then start + 8 else 4 * offset + start; len = end - (if udp then start + 8 else 4 * offset + start) }) else None

data_span_by-offset : (there udp : Bool) (o o' start end : ℕ) → (there ≡ true → udp ≡ false → o' ≡ o) → data_span_by there udp o' start end ≡ data_span_by there udp o start end
data_span_by-offset false udp o o' start end same = refl
data_span_by-offset true true o o' start end same = refl
data_span_by-offset true false o o' start end same = ap (λ (x : ℕ). data_span_by true false x start end) (same refl refl)

pub data_span-same : (p q : List ℕ) → SameShape p q → data_span q ≡ data_span p
data_span-same p q s =
    let t = has_transport-same p q s in
    let u = is_udp-same p q s in
    let a = segment_at-same p q s in
    let e = datagram_end-same p q s in
    let moved : data_span_by (has_transport q) (is_udp q) (data_offset q) (segment_at q) (datagram_end q) ≡ data_span_by (has_transport p) (is_udp p) (data_offset q) (segment_at p) (datagram_end p) = cc in
    moved ∙ data_span_by-offset (has_transport p) (is_udp p) (data_offset p) (data_offset q) (segment_at p) (datagram_end p)
    (λ there not_udp. ap (λ (x : ℕ). x / 16) (ap (λ (k : ℕ). get_or q (k + 12) 0) a ∙ s.offset there not_udp))

-- UDP's own length is the same
length_by : (there udp : Bool) (f : ℕ → ℕ) (other n m : ℕ) → (there ≡ true → udp ≡ true → m ≡ n) → (if there && (udp && nat_le 8 m) then f m else other) ≡ (if there && (udp && nat_le 8 n) then f n else other)
length_by false udp f other n m same = refl
length_by true false f other n m same = refl
length_by true true f other n m same = ap (λ (k : ℕ). if nat_le 8 k then f k else other) (same refl refl)

udp_len-same : (p q : List ℕ) → SameShape p q → has_transport p ≡ true → is_udp p ≡ true → udp_len q ≡ udp_len p
udp_len-same p q s there udp = ap (λ (n : ℕ). word q (n + 4)) (segment_at-same p q s) ∙ s.own_len there udp

pub summed_end-same : (p q : List ℕ) → SameShape p q → summed_end q ≡ summed_end p
summed_end-same p q s =
    let t = has_transport-same p q s in
    let u = is_udp-same p q s in
    let a = segment_at-same p q s in
    let e = datagram_end-same p q s in
    let moved : summed_end q ≡ (if has_transport p && (is_udp p && nat_le 8 (udp_len q)) then min (datagram_end p) (segment_at p + udp_len q) else datagram_end p) = cc in
    moved ∙ length_by (has_transport p) (is_udp p) (λ n. min (datagram_end p) (segment_at p + n)) (datagram_end p) (udp_len p) (udp_len q) (udp_len-same p q s)

pub segment_len-same : (p q : List ℕ) → SameShape p q → segment_len q ≡ segment_len p
segment_len-same p q s =
    let t = has_transport-same p q s in
    let u = is_udp-same p q s in
    let h = same_header p q s in
    let moved : segment_len q ≡ (if has_transport p && (is_udp p && nat_le 8 (udp_len q)) then udp_len q else datagram_len p - header_len p) = cc in
    moved ∙ length_by (has_transport p) (is_udp p) (λ n. n) (datagram_len p - header_len p) (udp_len p) (udp_len q) (udp_len-same p q s)

pub summed_span-same : (p q : List ℕ) → SameShape p q → summed_span q ≡ summed_span p
summed_span-same p q s = cong2 (λ (n : ℕ) (o : Option Span). option_map (λ s. record { at = s.at; len = n - s.at }) o) (summed_end-same p q s) (data_span-same p q s)

abbrev byte_by : Bool → Bool → ℕ → ℕ → ℕ → Option ℕ
byte_by there tcp at end byte = if (there && tcp) && nat_lt at end then Some byte else None

byte_by-byte : (there tcp : Bool) (at end b b' : ℕ) → (there ≡ true → tcp ≡ true → b' ≡ b) → byte_by there tcp at end b' ≡ byte_by there tcp at end b
byte_by-byte false tcp at end b b' same = refl
byte_by-byte true false at end b b' same = refl
byte_by-byte true true at end b b' same = ap (λ (x : ℕ). byte_by true true at end x) (same refl refl)

pub control_bits-same : (p q : List ℕ) → SameShape p q → control_bits q ≡ control_bits p
control_bits-same p q s =
    let t = has_transport-same p q s in
    let a = segment_at-same p q s in
    let e = datagram_end-same p q s in
    let moved : byte_by (has_transport q) (is_tcp q) (segment_at q + 13) (datagram_end q) (get_or q (segment_at q + 13) 0) ≡ byte_by (has_transport p) (is_tcp p) (segment_at p + 13) (datagram_end p) (get_or q (segment_at p + 13) 0) =
    cong2 (λ (x y : Bool). byte_by x y (segment_at q + 13) (datagram_end q) (get_or q (segment_at q + 13) 0)) t (is_tcp-same p q s) ∙ cong2 (λ (k n : ℕ). byte_by (has_transport p) (is_tcp p) (k + 13) n (get_or q (k + 13) 0)) a e in
    moved ∙ byte_by-byte (has_transport p) (is_tcp p) (segment_at p + 13) (datagram_end p) (get_or p (segment_at p + 13) 0) (get_or q (segment_at p + 13) 0) s.control

pub packet_span-same : (f : Field) (p q : List ℕ) → SameShape p q → packet_span f q ≡ packet_span f p
packet_span-same LinkDst p q s = refl
packet_span-same LinkSrc p q s = refl
packet_span-same Tag p q s = refl
packet_span-same Tos p q s = let h = same_header p q s in cc
packet_span-same Ttl p q s = let h = same_header p q s in cc
packet_span-same SrcIp p q s = let h = same_header p q s in cc
packet_span-same DstIp p q s = let h = same_header p q s in cc
packet_span-same SrcPort p q s = let t = has_transport-same p q s in let a = segment_at-same p q s in let e = datagram_end-same p q s in cc
packet_span-same DstPort p q s = let t = has_transport-same p q s in let a = segment_at-same p q s in let e = datagram_end-same p q s in cc
packet_span-same Payload p q s = data_span-same p q s

pub total_len-same : (p q : List ℕ) → SameShape p q → total_len q ≡ total_len p
total_len-same p q s = let h = same_header p q s in cc

pub protocol-same : (p q : List ℕ) → SameShape p q → protocol q ≡ protocol p
protocol-same p q s = let h = same_header p q s in cc

pub header_sum_at-same : (p q : List ℕ) → SameShape p q → header_sum_at q ≡ header_sum_at p
header_sum_at-same p q s = let h = same_header p q s in cc

pub segment_sum_at-same : (p q : List ℕ) → SameShape p q → segment_sum_at q ≡ segment_sum_at p
segment_sum_at-same p q s = let t = has_transport-same p q s in let a = segment_at-same p q s in let e = datagram_end-same p q s in let u = is_udp-same p q s in cc

-- where the span of a field lies
abbrev pub InBounds : Field → List ℕ → Span → Type 0
InBounds LinkDst p s = ⊥
InBounds LinkSrc p s = ⊥
InBounds Tag p s = ⊥
InBounds Tos p s = (s.at ≡ 3) × (s.len ≡ 1)
InBounds Ttl p s = (s.at ≡ in_header (ttl_at p)) × (s.len ≡ 1)
InBounds SrcIp p s = (s.at ≡ in_header (source_at p)) × (s.len ≡ address_len p)
InBounds DstIp p s = (s.at ≡ in_header (destination_at p)) × (s.len ≡ address_len p)
InBounds SrcPort p s = (s.at ≡ segment_at p) × (s.len ≡ 2) × (fields_end p ≤ segment_at p)
InBounds DstPort p s = (s.at ≡ segment_at p + 2) × (s.len ≡ 2) × (fields_end p ≤ segment_at p)
InBounds Payload p s = (segment_at p + 8 ≤ s.at) × (is_udp p ≡ false → segment_at p + 20 ≤ s.at) × (fields_end p ≤ segment_at p)

data_from_kind : (udp below : Bool) (start offset : ℕ) → (udp || (below && nat_le 5 offset)) ≡ true → (start + 8 ≤ (if udp then start + 8 else 4 * offset + start)) × (udp ≡ false → start + 20 ≤ (if udp then start + 8 else 4 * offset + start))
data_from_kind true below start offset known = (omega arith, λ not_udp. absurd (false≢true (sym not_udp)))
data_from_kind false below start offset known = let five : 5 ≤ offset = leb-true 5 offset (and_parts below (nat_le 5 offset) known).1 in (omega arith, λ _. omega arith)

data_at-bound : (p : List ℕ) → has_data p ≡ true → (segment_at p + 8 ≤ data_at p) × (is_udp p ≡ false → segment_at p + 20 ≤ data_at p)
data_at-bound p there = data_from_kind (is_udp p) (nat_lt (segment_at p + 12) (datagram_end p)) (segment_at p) (data_offset p) ((and_parts (has_transport p) (is_udp p || (nat_lt (segment_at p + 12) (datagram_end p) && nat_le 5 (data_offset p))) there).1)

header_bounds : (f : Field) (p : List ℕ) (at len : ℕ) → InBounds f p (record { at = at; len = len }) → IfSome (span_within (has_header p) (length p) at len) (λ s. InBounds f p s)
header_bounds f p at len b = if_some (has_header p && nat_le (at + len) (length p)) (record { at = at; len = len }) (λ (s : Span). InBounds f p s) (λ _. b)

pub bounds : (f : Field) (p : List ℕ) → IfSome (packet_span f p) (λ s. InBounds f p s)
bounds LinkDst p = tt
bounds LinkSrc p = tt
bounds Tag p = tt
bounds Tos p = if_some (is_ipv4 p && nat_le (3 + 1) (length p)) (record { at = 3; len = 1 }) (λ (s : Span). InBounds Tos p s) (λ e. (refl, refl))
bounds Ttl p = header_bounds Ttl p (in_header (ttl_at p)) 1 (refl, refl)
bounds SrcIp p = header_bounds SrcIp p (in_header (source_at p)) (address_len p) (refl, refl)
bounds DstIp p = header_bounds DstIp p (in_header (destination_at p)) (address_len p) (refl, refl)
bounds SrcPort p = if_some (has_transport p && nat_le (in_segment p 0 + 2) (datagram_end p)) (record { at = in_segment p 0; len = 2 }) (λ (s : Span). InBounds SrcPort p s) (λ e. (omega arith, refl, segment_at-transport p (and_parts (has_transport p) (nat_le (in_segment p 0 + 2) (datagram_end p)) e).0))
bounds DstPort p = if_some (has_transport p && nat_le (segment_at p + 2 + 2) (datagram_end p)) (record { at = segment_at p + 2; len = 2 }) (λ (s : Span). InBounds DstPort p s) (λ e. (refl, refl, segment_at-transport p (and_parts (has_transport p) (nat_le (segment_at p + 2 + 2) (datagram_end p)) e).0))
bounds Payload p = if_some (has_data p && nat_le (data_at p) (datagram_end p)) (record { at = data_at p; len = datagram_end p - data_at p }) (λ (s : Span). InBounds Payload p s)
    (λ e. let there = (and_parts (has_data p) (nat_le (data_at p) (datagram_end p)) e).0 in let b = data_at-bound p there in (b.0, b.1, segment_at-transport p (and_parts (has_transport p) (is_udp p || (nat_lt (segment_at p + 12) (datagram_end p) && nat_le 5 (data_offset p))) there).0))

pub bounds_at : (f : Field) (p : List ℕ) (s : Span) → packet_span f p ≡ Some s → InBounds f p s
bounds_at f p s is = MatchOption-at_some ⊤ (λ s. InBounds f p s) s is (bounds f p)

pub inside_at : (f : Field) (p : List ℕ) (s : Span) → packet_span f p ≡ Some s → s.at + s.len ≤ length p
inside_at f p s is = MatchOption-at_some ⊤ (λ s. s.at + s.len ≤ length p) s is (packet_span-inside f p)

-- a byte that a span leaves out
abbrev pub Outside : Span → ℕ → Type 0
Outside s k = (k < s.at) ⊎ (s.at + s.len ≤ k)

byte_kept : (s : Span) (new p : List ℕ) (k : ℕ) → length new ≡ s.len → s.at + s.len ≤ length p → Outside s k → get_or (overwritten s.at new p) k 0 ≡ get_or p k 0
byte_kept s new p k len inside (inl before) = get_or-before s.at new p k 0 (omega arith) before
byte_kept s new p k len inside (inr behind) = get_or-behind s.at new p k 0 (omega arith) (omega arith)

pub record OutsideAll (p : List ℕ) (s : Span) : Type 0 where
  pub byte0 : Outside s 0
  pub byte1 : Outside s 1
  pub byte2 : Outside s 2
  pub byte4 : Outside s 4
  pub byte5 : Outside s 5
  pub byte6 : Outside s 6
  pub byte7 : Outside s 7
  pub byte8 : Outside s 8
  pub byte9 : is_ipv6 p ≡ false → Outside s 9
  pub byte11 : is_ipv6 p ≡ false → Outside s 11
  pub offset : has_transport p ≡ true → is_udp p ≡ false → Outside s (segment_at p + 12)
  pub control : has_transport p ≡ true → is_udp p ≡ false → Outside s (segment_at p + 13)
  pub own_len : has_transport p ≡ true → is_udp p ≡ true → Outside s (segment_at p + 4) × Outside s (segment_at p + 4 + 1)

-- a span that begins after byte 8, and in IPv4 after byte 11 or at byte 10
pub outside_behind : (p : List ℕ) (s : Span) → 8 < s.at → (is_ipv6 p ≡ false → Outside s 9) → (is_ipv6 p ≡ false → Outside s 11) → (has_transport p ≡ true → is_udp p ≡ false → Outside s (segment_at p + 12)) → (has_transport p ≡ true → is_udp p ≡ false → Outside s (segment_at p + 13)) → (has_transport p ≡ true → is_udp p ≡ true → Outside s (segment_at p + 4) × Outside s (segment_at p + 4 + 1)) → OutsideAll p s
outside_behind p s behind byte9 byte11 offset control own_len = record { byte0 = inl (omega arith); byte1 = inl (omega arith); byte2 = inl (omega arith); byte4 = inl (omega arith); byte5 = inl (omega arith); byte6 = inl (omega arith); byte7 = inl (omega arith); byte8 = inl behind; byte9 = byte9; byte11 = byte11; offset = offset; control = control; own_len = own_len }

-- a span within the header
outside_header : (p : List ℕ) (s : Span) → 8 < s.at → (is_ipv6 p ≡ false → Outside s 9) → (is_ipv6 p ≡ false → Outside s 11) → s.at + s.len ≤ fields_end p → OutsideAll p s
outside_header p s behind byte9 byte11 inside =
    outside_behind p s behind byte9 byte11 (λ there _. let far = segment_at-transport p there in inr (omega arith)) (λ there _. let far = segment_at-transport p there in inr (omega arith)) (λ there _. let far = segment_at-transport p there in (inr (omega arith), inr (omega arith)))

outside_all : (f : Field) (p : List ℕ) (s : Span) → InBounds f p s → OutsideAll p s
outside_all LinkDst p s b = absurd b
outside_all LinkSrc p s b = absurd b
outside_all Tag p s b = absurd b
outside_all Tos p s b =
    let n = numbers p in
    record { byte0 = inl (omega arith); byte1 = inl (omega arith); byte2 = inl (omega arith); byte4 = inr (omega arith); byte5 = inr (omega arith); byte6 = inr (omega arith); byte7 = inr (omega arith); byte8 = inr (omega arith); byte9 = λ _. inr (omega arith); byte11 = λ _. inr (omega arith); offset = λ there _. let far = segment_at-transport p there in inr (omega arith); control = λ there _. let far = segment_at-transport p there in inr (omega arith); own_len = λ there _. let far = segment_at-transport p there in (inr (omega arith), inr (omega arith)) }
outside_all Ttl p s b = let n = numbers p in outside_header p s (omega arith) (λ four. let zero = n.none four in inl (omega arith)) (λ four. let zero = n.none four in inr (omega arith)) (omega arith)
outside_all SrcIp p s b = let n = numbers p in outside_header p s (omega arith) (λ four. let zero = n.none four in inl (omega arith)) (λ four. let zero = n.none four in inl (omega arith)) (omega arith)
outside_all DstIp p s b = let n = numbers p in outside_header p s (omega arith) (λ four. let zero = n.none four in inl (omega arith)) (λ four. let zero = n.none four in inl (omega arith)) (omega arith)
outside_all SrcPort p s b = let n = numbers p in outside_behind p s (omega arith) (λ _. inl (omega arith)) (λ _. inl (omega arith)) (λ _ _. inr (omega arith)) (λ _ _. inr (omega arith)) (λ _ _. (inr (omega arith), inr (omega arith)))
outside_all DstPort p s b = let n = numbers p in outside_behind p s (omega arith) (λ _. inl (omega arith)) (λ _. inl (omega arith)) (λ _ _. inr (omega arith)) (λ _ _. inr (omega arith)) (λ _ _. (inr (omega arith), inr (omega arith)))
outside_all Payload p s b = let n = numbers p in outside_behind p s (omega arith) (λ _. inl (omega arith)) (λ _. inl (omega arith)) (λ _ tcp. let far = b.1 tcp in inl (omega arith)) (λ _ tcp. let far = b.1 tcp in inl (omega arith)) (λ _ _. let far = b.0 in (inl (omega arith), inl (omega arith)))

is_tcp-not_udp : (n : ℕ) → nat_eq n 6 ≡ true → nat_eq n 17 ≡ false
is_tcp-not_udp n tcp = let six = eqb-true n 6 tcp in rw six refl

pub shape_outside : (p : List ℕ) (s : Span) (new : List ℕ) → OutsideAll p s → length new ≡ s.len → s.at + s.len ≤ length p → SameShape p (overwritten s.at new p)
shape_outside p s new o len inside = record {
  len = length-overwritten s.at new p (omega arith);
  byte0 = byte_kept s new p 0 len inside o.byte0;
  byte1 = byte_kept s new p 1 len inside o.byte1;
  byte2 = byte_kept s new p 2 len inside o.byte2;
  byte4 = byte_kept s new p 4 len inside o.byte4;
  byte5 = byte_kept s new p 5 len inside o.byte5;
  byte6 = byte_kept s new p 6 len inside o.byte6;
  byte7 = byte_kept s new p 7 len inside o.byte7;
  byte8 = byte_kept s new p 8 len inside o.byte8;
  byte9 = λ four. byte_kept s new p 9 len inside (o.byte9 four);
  byte11 = λ four. byte_kept s new p 11 len inside (o.byte11 four);
  offset = λ there not_udp. byte_kept s new p (segment_at p + 12) len inside (o.offset there not_udp);
  control = λ there tcp. byte_kept s new p (segment_at p + 13) len inside (o.control there (is_tcp-not_udp (header_byte p (protocol_at p)) tcp));
  own_len = λ there udp. let apart = o.own_len there udp in cong2 (λ (a b : ℕ). a * 256 + b) (byte_kept s new p (segment_at p + 4) len inside apart.0) (byte_kept s new p (segment_at p + 4 + 1) len inside apart.1);
}

pub shape_kept : (f : Field) (p : List ℕ) (s : Span) (new : List ℕ) → packet_span f p ≡ Some s → length new ≡ s.len → SameShape p (overwritten s.at new p)
shape_kept f p s new is len = shape_outside p s new (outside_all f p s (bounds_at f p s is)) len (inside_at f p s is)

-- two spans lie apart
abbrev pub Apart : Span → Span → Type 0
Apart s t = (s.at + s.len ≤ t.at) ⊎ (t.at + t.len ≤ s.at)

pub bytes_apart : (s t : Span) (new p : List ℕ) → length new ≡ s.len → s.at + s.len ≤ length p → Apart s t → bytes_at (overwritten s.at new p) t ≡ bytes_at p t
bytes_apart s t new p len inside (inl behind) = bytes_behind s.at new p t.at t.len (omega arith) (omega arith)
bytes_apart s t new p len inside (inr before) = bytes_before s.at new p t.at t.len (omega arith) before

-- the bytes of a field of a packet
abbrev pub packet_value : Field → List ℕ → Option (List ℕ)
packet_value f p = option_map (bytes_at p) (packet_span f p)
