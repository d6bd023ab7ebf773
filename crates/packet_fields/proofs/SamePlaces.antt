-- When two packets have the same places.
use Rattle.std.proofs.Common.{◌≡◌, ◌+◌, ◌∙◌, ℕ, List, length, get_or, Bool, true, false, ◌&&◌, ◌||◌, min, sym, ap, refl, ⊎_elim}
use Rattle.std.specs.Prelude.{Option, Some, None, nat_le, nat_lt, ◌==◌}
use Rattle.std.specs.Option.{is_some}
use Rattle.std.proofs.lemmas.Bool.{and_parts, and_from, and_left, and_right, or_cases, or_from, or_left, cases_Bool, lt-ltb, le-leb, eqb-true, eq-eqb, cond-true, cond-false, false≢true}
use Rattle.std.proofs.lemmas.Option.{cond_some}
use Rattle.packet_fields.specs.Packets.{in_header, header_byte, is_ipv4, is_ipv6, has_header, header_len, protocol_at, length_at, datagram_len, total_len, protocol, is_tcp, is_udp, has_transport, segment_at, in_segment, datagram_end, data_offset, data_span, control_bits}
use Rattle.packet_fields.specs.Plans.{header_plan_of, segment_plan_of}
use Rattle.packet_fields.specs.Fields.{packet_span}
use Rattle.packet_fields.specs.Checksums.{same_span, same_number, same_header_plan, same_segment_plan, has_same_version, has_same_places, header_sealed, segment_sealed, packet_sealed}
use Rattle.packet_fields.specs.Changes.{has_same_headers}
use Rattle.packet_fields.specs.declared.field.Field.TheVariants.{SrcPort}
use Rattle.packet_fields.specs.Outlines.{version_of}
use Rattle.packet_fields.specs.declared.packet.IpVersion.{IpVersion}
use Rattle.packet_fields.specs.declared.transport.SegmentPlan.{SegmentPlan}
use Rattle.packet_fields.specs.declared.plan.Span.{Span}
use Rattle.packet_fields.proofs.Overwriting.{cong2}
use Rattle.packet_fields.proofs.Versions.{SameVersion, same_version, no_version, same_by, HasTransport, transport_parts}
use Rattle.packet_fields.proofs.Shapes.{data_span_by}
use Rattle.packet_fields.proofs.Sealed.{number_from}

and_split : (a b c d e : Bool) → (a && (b && (c && (d && e)))) ≡ ((a && (b && (c && d))) && e)
and_split false b c d e = refl
and_split true false c d e = refl
and_split true true false d e = refl
and_split true true true d e = refl

pub places_split : (p q : List ℕ) → has_same_places p q ≡ (has_same_headers p q && same_segment_plan (segment_plan_of p) (segment_plan_of q))
unfolding has_same_places
places_split p q = and_split (has_same_version p q) (length p == length q) (header_len p == header_len q) (same_header_plan (header_plan_of p) (header_plan_of q)) (same_segment_plan (segment_plan_of p) (segment_plan_of q))

pub same_when : (p q : List ℕ) → true ≡ has_same_headers p q → true ≡ same_segment_plan (segment_plan_of p) (segment_plan_of q) → has_same_places p q ≡ true
same_when p q headers segment = places_split p q ∙ and_from (has_same_headers p q) (same_segment_plan (segment_plan_of p) (segment_plan_of q)) (sym headers) (sym segment)

pub other_headers : (p q : List ℕ) → false ≡ has_same_headers p q → has_same_places p q ≡ false
other_headers p q headers = places_split p q ∙ and_left (has_same_headers p q) (same_segment_plan (segment_plan_of p) (segment_plan_of q)) (sym headers)

pub other_segment : (p q : List ℕ) → false ≡ same_segment_plan (segment_plan_of p) (segment_plan_of q) → has_same_places p q ≡ false
other_segment p q segment = places_split p q ∙ and_right (has_same_headers p q) (same_segment_plan (segment_plan_of p) (segment_plan_of q)) (sym segment)

-- what sealing a packet does then
pub stays : (p q : List ℕ) → has_same_places p q ≡ false → q ≡ packet_sealed p q
stays p q other = sym (cond-false (has_same_places p q) (segment_sealed p (header_sealed p q)) q other)

pub seals : (p q r s : List ℕ) → has_same_places p q ≡ true → r ≡ header_sealed p q → s ≡ segment_sealed p r → s ≡ packet_sealed p q
seals p q r s same first second = second ∙ (ap (λ (xs : List ℕ). segment_sealed p xs) first ∙ sym (cond-true (has_same_places p q) (segment_sealed p (header_sealed p q)) q same))

-- a packet without a header has no places
pub other_version : (p q : List ℕ) → None ≡ version_of p → has_same_places p q ≡ false
unfolding has_same_places
other_version p q gone =
    let none = no_version p gone in
    and_left (has_same_version p q) ((length p == length q) && ((header_len p == header_len q) && (same_header_plan (header_plan_of p) (header_plan_of q) && same_segment_plan (segment_plan_of p) (segment_plan_of q))))
    (or_from (is_ipv4 p && is_ipv4 q) (is_ipv6 p && is_ipv6 q) (and_left (is_ipv4 p) (is_ipv4 q) none.0) (and_left (is_ipv6 p) (is_ipv6 q) none.1))

-- what the test of two headers shows
pub record SameHeaders (p q : List ℕ) : Type 0 where
  pub version : SameVersion p q
  pub len : length p ≡ length q
  pub header : header_len p ≡ header_len q
  pub proto : protocol p ≡ protocol q
  pub total : total_len p ≡ total_len q

numbers_of_header : (a b c d e f g : Bool) → (a && (b && (c && (d && (e && (f && g)))))) ≡ true → (e ≡ true) × (f ≡ true)
numbers_of_header a b c d e f g test =
    let r1 = (and_parts a (b && (c && (d && (e && (f && g))))) test).1 in
    let r2 = (and_parts b (c && (d && (e && (f && g)))) r1).1 in
    let r3 = (and_parts c (d && (e && (f && g))) r2).1 in
    let r4 = (and_parts d (e && (f && g)) r3).1 in
    let r5 = and_parts e (f && g) r4 in
    (r5.0, (and_parts f g r5.1).0)

pub headers_parts : (p q : List ℕ) → has_same_headers p q ≡ true → SameHeaders p q
headers_parts p q test =
    let hp = header_plan_of p in
    let hq = header_plan_of q in
    let plans = same_header_plan hp hq in
    let a = and_parts (has_same_version p q) ((length p == length q) && ((header_len p == header_len q) && plans)) test in
    let c = and_parts (length p == length q) ((header_len p == header_len q) && plans) a.1 in
    let d = and_parts (header_len p == header_len q) plans c.1 in
    let numbers = numbers_of_header (same_span hp.tos hq.tos) (same_span hp.ttl hq.ttl) (same_span hp.src_ip hq.src_ip) (same_span hp.dst_ip hq.dst_ip) (same_number hp.proto hq.proto) (same_number hp.total_len hq.total_len) (same_number hp.sum_at hq.sum_at) d.1 in
    record {
      version = same_version p q a.0;
      len = eqb-true (length p) (length q) c.0;
      header = eqb-true (header_len p) (header_len q) d.0;
      proto = number_from (protocol p) (protocol q) numbers.0;
      total = number_from (total_len p) (total_len q) numbers.1;
    }

protocol_is : (p : List ℕ) → HasTransport p → protocol p ≡ Some (header_byte p (protocol_at p))
protocol_is p t = cond-true (has_header p && nat_lt (in_header (protocol_at p)) (length p)) (Some (header_byte p (protocol_at p))) None (and_from (has_header p) (nat_lt (in_header (protocol_at p)) (length p)) t.header (lt-ltb (in_header (protocol_at p)) (length p) t.captured))

total_len_is : (p : List ℕ) → HasTransport p → total_len p ≡ Some (datagram_len p)
total_len_is p t =
    let captured = nat_le (in_header (length_at p + 2)) (length p) in
    let short = is_ipv4 p || nat_le (datagram_len p) 65535 in
    cond-true (has_header p && (captured && short)) (Some (datagram_len p)) None (and_from (has_header p) (captured && short) t.header (and_from captured short (le-leb (in_header (length_at p + 2)) (length p) t.length_there) t.short))

-- what two packets with the same headers share in their transport headers
pub record SameTransport (p q : List ℕ) : Type 0 where
  pub start : segment_at q ≡ segment_at p
  pub ends : datagram_end q ≡ datagram_end p
  pub udp : is_udp q ≡ is_udp p
  pub tcp : is_tcp q ≡ is_tcp p

pub same_transport : (p q : List ℕ) → SameHeaders p q → HasTransport p → SameTransport p q
same_transport p q h t =
    let kind = (cond_some (has_header q && nat_lt (in_header (protocol_at q)) (length q)) (header_byte q (protocol_at q)) (header_byte p (protocol_at p)) (sym h.proto ∙ protocol_is p t)).1 in
    let total = (cond_some (has_header q && (nat_le (in_header (length_at q + 2)) (length q) && (is_ipv4 q || nat_le (datagram_len q) 65535))) (datagram_len q) (datagram_len p) (sym h.total ∙ total_len_is p t)).1 in
    record {
      start = ap (λ (n : ℕ). in_header n) (sym h.header);
      ends = cong2 (λ (m n : ℕ). min m (in_header n)) (sym h.len) total;
      udp = ap (λ (n : ℕ). n == 17) kind;
      tcp = ap (λ (n : ℕ). n == 6) kind;
    }

span_own : (s : Option Span) → same_span s s ≡ true
span_own None = refl
span_own (Some s) = and_from (s.at == s.at) (s.len == s.len) (eq-eqb s.at s.at refl) (eq-eqb s.len s.len refl)

number_own : (o : Option ℕ) → same_number o o ≡ true
number_own None = refl
number_own (Some n) = eq-eqb n n refl

same_spans : (s t : Option Span) → t ≡ s → same_span s t ≡ true
same_spans s t same = ap (λ (x : Option Span). same_span s x) same ∙ span_own s

same_numbers : (m n : Option ℕ) → n ≡ m → same_number m n ≡ true
same_numbers m n same = ap (λ (x : Option ℕ). same_number m x) same ∙ number_own m

and_last : (x y : Bool) → (x && (y && true)) ≡ (x && y)
and_last true true = refl
and_last true false = refl
and_last false y = refl

only_data : (a b x y z : Bool) → a ≡ true → b ≡ true → z ≡ true → (a && (b && (x && (y && z)))) ≡ (x && y)
only_data a b x y z is_a is_b is_z = rw (is_a, is_b, is_z) (and_last x y)

some_span : (o : Option Span) → is_some o ≡ true → (s : Span) × (o ≡ Some s)
some_span None there = absurd (false≢true there)
some_span (Some s) there = (s, refl)

only_numbers : (a b c d e f g : Bool) → a ≡ true → b ≡ true → c ≡ true → d ≡ true → g ≡ true → (a && (b && (c && (d && (e && (f && g)))))) ≡ (e && f)
only_numbers a b c d e f g is_a is_b is_c is_d is_g = rw (is_a, is_b, is_c, is_d, is_g) (and_last e f)

-- two packets of one version and length can differ in their headers only in these
pub header_same : (v : IpVersion) (p q : List ℕ) → version_of p ≡ Some v → version_of q ≡ Some v → length p ≡ length q
    → (same_number (protocol p) (protocol q) && same_number (total_len p) (total_len q)) ≡ same_header_plan (header_plan_of p) (header_plan_of q)
header_same v p q is is_q len =
    let hp = header_plan_of p in
    let hq = header_plan_of q in
    let same = same_by v p q is is_q in
    let tos : hq.tos ≡ hp.tos = cc in
    let ttl : hq.ttl ≡ hp.ttl = cc in
    let src : hq.src_ip ≡ hp.src_ip = cc in
    let dst : hq.dst_ip ≡ hp.dst_ip = cc in
    let sum : hq.sum_at ≡ hp.sum_at = cc in
    sym (only_numbers (same_span hp.tos hq.tos) (same_span hp.ttl hq.ttl) (same_span hp.src_ip hq.src_ip) (same_span hp.dst_ip hq.dst_ip) (same_number hp.proto hq.proto) (same_number hp.total_len hq.total_len) (same_number hp.sum_at hq.sum_at)
    (same_spans hp.tos hq.tos tos) (same_spans hp.ttl hq.ttl ttl) (same_spans hp.src_ip hq.src_ip src) (same_spans hp.dst_ip hq.dst_ip dst) (same_numbers hp.sum_at hq.sum_at sum))

-- the data and the control bits are the same
abbrev same_data : List ℕ → List ℕ → Bool
same_data p q = same_span (data_span p) (data_span q) && same_number (control_bits p) (control_bits q)

udp_data : (p q : List ℕ) → SameTransport p q → has_transport p ≡ true → has_transport q ≡ true → is_udp p ≡ true → same_data p q ≡ true
udp_data p q t old new udp =
    let udp_q : is_udp q ≡ true = t.udp ∙ udp in
    let start = t.start in
    let ends = t.ends in
    let first : data_span p ≡ data_span_by true true (data_offset p) (segment_at p) (datagram_end p) = cc in
    let second : data_span q ≡ data_span_by true true (data_offset q) (segment_at p) (datagram_end p) = cc in
    let other : is_tcp p ≡ false = ap (λ (n : ℕ). n == 6) (eqb-true (header_byte p (protocol_at p)) 17 udp) in
    let none_p : control_bits p ≡ None = cond-false ((has_transport p && is_tcp p) && nat_lt (in_segment p 13) (datagram_end p)) (Some (get_or p (in_segment p 13) 0)) None (and_left (has_transport p && is_tcp p) (nat_lt (in_segment p 13) (datagram_end p)) (and_right (has_transport p) (is_tcp p) other)) in
    let none_q : control_bits q ≡ None = cond-false ((has_transport q && is_tcp q) && nat_lt (in_segment q 13) (datagram_end q)) (Some (get_or q (in_segment q 13) 0)) None (and_left (has_transport q && is_tcp q) (nat_lt (in_segment q 13) (datagram_end q)) (and_right (has_transport q) (is_tcp q) (t.tcp ∙ other))) in
    and_from (same_span (data_span p) (data_span q)) (same_number (control_bits p) (control_bits q)) (same_spans (data_span p) (data_span q) (second ∙ sym first)) (same_numbers (control_bits p) (control_bits q) (none_q ∙ sym none_p))

segment_both : (p q : List ℕ) → SameTransport p q → has_transport p ≡ true → has_transport q ≡ true
    → same_segment_plan (segment_plan_of p) (segment_plan_of q) ≡ (has_transport q && (is_udp p || same_data p q))
segment_both p q t old new =
    let sp = segment_plan_of p in
    let sq = segment_plan_of q in
    let start = t.start in
    let ends = t.ends in
    let kind = t.udp in
    let src : sq.src_port ≡ sp.src_port = cc in
    let dst : sq.dst_port ≡ sp.dst_port = cc in
    let sum : sq.sum_at ≡ sp.sum_at = cc in
    only_data (same_span sp.src_port sq.src_port) (same_span sp.dst_port sq.dst_port) (same_span sp.payload sq.payload) (same_number sp.control_bits sq.control_bits) (same_number sp.sum_at sq.sum_at) (same_spans sp.src_port sq.src_port src) (same_spans sp.dst_port sq.dst_port dst) (same_numbers sp.sum_at sq.sum_at sum)
    ∙ ⊎_elim
    (λ (udp : is_udp p ≡ true). udp_data p q t old new udp ∙ sym (and_from (has_transport q) (is_udp p || same_data p q) new (or_left (is_udp p) (same_data p q) udp)))
    (λ (tcp : is_udp p ≡ false). sym (cong2 (λ (a b : Bool). a && (b || same_data p q)) new tcp))
    (cases_Bool (is_udp p))

segment_gone : (p q : List ℕ) (s : Span) → packet_span SrcPort p ≡ Some s → has_transport q ≡ false
    → same_segment_plan (segment_plan_of p) (segment_plan_of q) ≡ (has_transport q && (is_udp p || same_data p q))
segment_gone p q s there gone =
    let sp = segment_plan_of p in
    let sq = segment_plan_of q in
    let none : sq.src_port ≡ None = cond-false (has_transport q && nat_le (in_segment q 0 + 2) (datagram_end q)) (Some (record { at = in_segment q 0; len = 2 })) None (and_left (has_transport q) (nat_le (in_segment q 0 + 2) (datagram_end q)) gone) in
    let other : same_span sp.src_port sq.src_port ≡ false = cong2 (λ (a b : Option Span). same_span a b) there none in
    and_left (same_span sp.src_port sq.src_port) (same_span sp.dst_port sq.dst_port && (same_span sp.payload sq.payload && (same_number sp.control_bits sq.control_bits && same_number sp.sum_at sq.sum_at))) other
    ∙ sym (and_left (has_transport q) (is_udp p || same_data p q) gone)

pub ports_transport : (p : List ℕ) → is_some (packet_span SrcPort p) ≡ true → has_transport p ≡ true
ports_transport p there =
    let s = some_span (packet_span SrcPort p) there in
    let test = cond_some (has_transport p && nat_le (in_segment p 0 + 2) (datagram_end p)) (record { at = in_segment p 0; len = 2 }) s.0 s.1 in
    (and_parts (has_transport p) (nat_le (in_segment p 0 + 2) (datagram_end p)) test.0).0

-- if the old packet has ports, only these can differ
pub segment_same : (p q : List ℕ) → SameHeaders p q → is_some (packet_span SrcPort p) ≡ true
    → same_segment_plan (segment_plan_of p) (segment_plan_of q) ≡ (has_transport q && (is_udp p || same_data p q))
segment_same p q h there =
    let s = some_span (packet_span SrcPort p) there in
    let old = ports_transport p there in
    ⊎_elim
    (λ (new : has_transport q ≡ true). segment_both p q (same_transport p q h (transport_parts p old)) old new)
    (λ (gone : has_transport q ≡ false). segment_gone p q s.0 s.1 gone)
    (cases_Bool (has_transport q))

pub udp_segment : (p q : List ℕ) → SameHeaders p q → is_some (packet_span SrcPort p) ≡ true → has_transport q ≡ true → is_udp p ≡ true → is_udp p ≡ same_segment_plan (segment_plan_of p) (segment_plan_of q)
udp_segment p q h there new udp = udp ∙ sym (segment_same p q h there ∙ and_from (has_transport q) (is_udp p || same_data p q) new (or_left (is_udp p) (same_data p q) udp))

-- a packet that isn't UDP and has a transport header is TCP
pub tcp_kind : (p q : List ℕ) → SameHeaders p q → is_some (packet_span SrcPort p) ≡ true → has_transport q ≡ true → is_udp p ≡ false → is_tcp q ≡ true
tcp_kind p q h there new other =
    let t = same_transport p q h (transport_parts p (ports_transport p there)) in
    ⊎_elim
    (λ (tcp : is_tcp q ≡ true). tcp)
    (λ (udp : is_udp q ≡ true). absurd (false≢true (sym (t.udp ∙ other) ∙ udp)))
    (or_cases (is_tcp q) (is_udp q) (transport_parts q new).kind)

pub tcp_segment : (p q : List ℕ) (plan : SegmentPlan) (answer : Bool) → SameHeaders p q → is_some (packet_span SrcPort p) ≡ true → has_transport q ≡ true → is_udp p ≡ false → plan ≡ segment_plan_of p
    → answer ≡ (same_span plan.payload (data_span q) && same_number plan.control_bits (control_bits q)) → answer ≡ same_segment_plan (segment_plan_of p) (segment_plan_of q)
tcp_segment p q plan answer h there new tcp is_plan is =
    is ∙ (ap (λ (x : SegmentPlan). same_span x.payload (data_span q) && same_number x.control_bits (control_bits q)) is_plan ∙ sym (segment_same p q h there ∙ cong2 (λ (a b : Bool). a && (b || same_data p q)) new tcp))
