-- What the format of a header's version says about the packet's fields.
use Rattle.std.proofs.Common.{◌≡◌, ◌≤◌, ◌<◌, ◌+◌, ◌^◌, ◌∙◌, ℕ, List, length, Bool, true, false, not, ◌&&◌, ◌||◌, sym, ap, refl, arith, ⊎_elim}
use Rattle.std.specs.Prelude.{Option, Some, None, SomeIff, if◌then◌else◌, nat_le, ◌==◌}
use Rattle.std.proofs.lemmas.Bool.{and_from, and_right, or_right, or_cases, or_from, cases_lt, cases_Bool, eqb-true, le-leb, leb-true, lt-leb, cond-true, cond-false, false≢true}
use Rattle.packet_fields.specs.Frames.{word}
use Rattle.packet_fields.specs.Packets.{span_within, place_within, byte_within, in_header, header_byte, is_ipv4, is_ipv6, has_header, protocol_at, length_at, datagram_len, total_len, is_tcp, is_udp, has_transport, segment_at, in_segment, datagram_end, data_span, control_bits, checksum_at, segment_sum_at}
use Rattle.packet_fields.specs.Fields.{packet_span}
use Rattle.packet_fields.specs.Outlines.{version_of, format_of}
use Rattle.packet_fields.specs.Plans.{segment_plan_of}
use Rattle.packet_fields.specs.declared.field.Field.TheVariants.{SrcPort, DstPort}
use Rattle.packet_fields.specs.declared.plan.Span.{Span}
use Rattle.packet_fields.specs.declared.packet.IpVersion.{IpVersion}
use Rattle.packet_fields.specs.declared.packet.IpVersion.TheVariants.{V4, V6}
use Rattle.packet_fields.specs.declared.packet.HeaderFormat.{HeaderFormat}
use Rattle.packet_fields.specs.declared.transport.SegmentPlan.{SegmentPlan}
use Rattle.packet_fields.proofs.Overwriting.{cong2, cong3}
use Rattle.packet_fields.proofs.Versions.{by_six, version_is, has_version, is_ipv4-alone, HasTransport, transport_parts}

-- the datagram's length, from the format
pub datagram-format : (p : List ℕ) (f : HeaderFormat) → f ≡ format_of p → word p f.total_len + f.uncounted ≡ datagram_len p
datagram-format p f form =
    ap (λ (x : HeaderFormat). word p x.total_len + x.uncounted) form
    ∙ by_six (λ (b : Bool). word p (in_header (if b then 4 else 2)) + (if b then 40 else 0) ≡ (if b then word p 6 + 40 else word p 4)) (is_ipv6 p) (λ _. refl) (λ _. omega arith)

-- of IPv4 the length leaves nothing out
none_uncounted : (v : IpVersion) (p : List ℕ) (n : ℕ) → version_of p ≡ Some v → n < 2 ^ 16 → 65535 < n + (format_of p).uncounted → (is_ipv4 p ≡ false)
none_uncounted V4 p n is small large =
    let none : (format_of p).uncounted ≡ 0 = cond-false (is_ipv6 p) 40 0 (version_is p V4 is).1 in
    absurd (omega arith)
none_uncounted V6 p n is small large = (version_is p V6 is).0

above : (n : ℕ) → (n < 2 ^ 16 → ⊥) → 65535 < n
above n none = ⊎_elim (λ (below : n < 2 ^ 16). absurd (none below)) (λ (large : 2 ^ 16 ≤ n). omega arith) (cases_lt n (2 ^ 16))

pub total_is : (v : IpVersion) (p : List ℕ) (f : HeaderFormat) (n : ℕ) (o : Option ℕ) → version_of p ≡ Some v → f ≡ format_of p → f.total_len + 2 ≤ length p → n < 2 ^ 16 → n ≡ word p f.total_len → SomeIff o (n + f.uncounted < 2 ^ 16) (n + f.uncounted) → o ≡ total_len p
total_is v p f n None is form inside small word_is none =
    let sum : n + f.uncounted ≡ datagram_len p = ap (λ (k : ℕ). k + f.uncounted) word_is ∙ datagram-format p f form in
    let uncounted : f.uncounted ≡ (format_of p).uncounted = ap (λ (x : HeaderFormat). x.uncounted) form in
    let large : 65535 < n + f.uncounted = above (n + f.uncounted) none in
    let other : (is_ipv4 p || nat_le (datagram_len p) 65535) ≡ false = or_from (is_ipv4 p) (nat_le (datagram_len p) 65535) (none_uncounted v p n is small (omega arith)) (lt-leb (datagram_len p) 65535 (omega arith)) in
    let captured = nat_le (in_header (length_at p + 2)) (length p) in
    let rest = is_ipv4 p || nat_le (datagram_len p) 65535 in
    sym (cond-false (has_header p && (captured && rest)) (Some (datagram_len p)) None (and_right (has_header p) (captured && rest) (and_right captured rest other)))
total_is v p f n (Some k) is form inside small word_is some =
    let sum : n + f.uncounted ≡ datagram_len p = ap (λ (k : ℕ). k + f.uncounted) word_is ∙ datagram-format p f form in
    let at : f.total_len ≡ in_header (length_at p) = ap (λ (x : HeaderFormat). x.total_len) form in
    let below = some.0 in
    let captured = nat_le (in_header (length_at p + 2)) (length p) in
    let rest = is_ipv4 p || nat_le (datagram_len p) 65535 in
    let there : (has_header p && (captured && rest)) ≡ true =
    and_from (has_header p) (captured && rest) (has_version p v is).there (and_from captured rest (le-leb (in_header (length_at p + 2)) (length p) (omega arith)) (or_right (is_ipv4 p) (nat_le (datagram_len p) 65535) (le-leb (datagram_len p) 65535 (omega arith)))) in
    ap (λ (m : ℕ). Some m) (some.1 ∙ sum) ∙ sym (cond-true (has_header p && (captured && rest)) (Some (datagram_len p)) None there)

-- the length is short
pub datagram_short : (p : List ℕ) (f : HeaderFormat) (n : ℕ) → HasTransport p → f ≡ format_of p → n < 2 ^ 16 → n ≡ word p f.total_len → n + f.uncounted ≤ 65535
datagram_short p f n t form small word_is =
    let sum : n + f.uncounted ≡ datagram_len p = ap (λ (k : ℕ). k + f.uncounted) word_is ∙ datagram-format p f form in
    ⊎_elim
    (λ (four : is_ipv4 p ≡ true).
    let none : f.uncounted ≡ 0 = ap (λ (x : HeaderFormat). x.uncounted) form ∙ cond-false (is_ipv6 p) 40 0 (is_ipv4-alone p four) in
    omega arith)
    (λ (fits : nat_le (datagram_len p) 65535 ≡ true). let below = leb-true (datagram_len p) 65535 fits in omega arith)
    (or_cases (is_ipv4 p) (nat_le (datagram_len p) 65535) t.short)

-- if no transport header begins, there are no places
abbrev pub no_segment_plan : SegmentPlan
no_segment_plan = record { src_port = None; dst_port = None; payload = None; control_bits = None; sum_at = None }

abbrev pub segment_plan_from : Option Span → Option Span → Option Span → Option ℕ → Option ℕ → SegmentPlan
segment_plan_from a b c d e = record { src_port = a; dst_port = b; payload = c; control_bits = d; sum_at = e }

pub segment_plan-none : (p : List ℕ) → has_transport p ≡ false → no_segment_plan ≡ segment_plan_of p
segment_plan-none p gone = cc

plan_parts : {a a' b b' c c' : Option Span} {d d' e e' : Option ℕ} → a ≡ a' → b ≡ b' → c ≡ c' → d ≡ d' → e ≡ e' → segment_plan_from a b c d e ≡ segment_plan_from a' b' c' d' e'
plan_parts pa pb pc pd pe = cc

-- the places of a transport header
tcp_alone : (p : List ℕ) → (is_tcp p || is_udp p) ≡ true → is_tcp p ≡ not (is_udp p)
tcp_alone p kind =
    ⊎_elim
    (λ (udp : is_udp p ≡ true). ap (λ (n : ℕ). n == 6) (eqb-true (header_byte p (protocol_at p)) 17 udp) ∙ sym (ap (λ (b : Bool). not b) udp))
    (λ (other : is_udp p ≡ false). ⊎_elim (λ (tcp : is_tcp p ≡ true). tcp ∙ sym (ap (λ (b : Bool). not b) other)) (λ (udp : is_udp p ≡ true). absurd (false≢true (sym other ∙ udp))) (or_cases (is_tcp p) (is_udp p) kind))
    (cases_Bool (is_udp p))

place_by : (udp : Bool) (start : ℕ) → start + (if udp then 6 else 16) ≡ (if udp then start + 6 else start + 16)
place_by true start = refl
place_by false start = refl

pub sum_place : (p : List ℕ) (udp : Bool) (start sum : ℕ) → udp ≡ is_udp p → start ≡ segment_at p → sum ≡ (if udp then 6 else 16) → start + sum ≡ checksum_at p
sum_place p udp start sum is_kind is_start is_sum = ap (λ (n : ℕ). start + n) is_sum ∙ (place_by udp start ∙ cong2 (λ (b : Bool) (n : ℕ). if b then n + 6 else n + 16) is_kind is_start)

pub control_place : (p : List ℕ) (udp : Bool) (start end : ℕ) → has_transport p ≡ true → udp ≡ is_udp p → start ≡ segment_at p → end ≡ datagram_end p → byte_within (not udp) end p (start + 13) ≡ control_bits p
control_place p udp start end there is_kind is_start is_end =
    cong3 (λ (b : Bool) (n k : ℕ). byte_within (not b) n p (k + 13)) is_kind is_end is_start
    ∙ cong2 (λ (a b : Bool). byte_within (a && b) (datagram_end p) p (in_segment p 13)) (sym there) (sym (tcp_alone p (transport_parts p there).kind))

pub segment_plan-there : (p : List ℕ) (udp : Bool) (start end sum : ℕ) (src dst payload : Option Span) (bits at : Option ℕ) → has_transport p ≡ true → udp ≡ is_udp p → start ≡ segment_at p → end ≡ datagram_end p → sum ≡ (if udp then 6 else 16)
    → src ≡ span_within true end (start + 0) 2 → dst ≡ span_within true end (start + 2) 2 → payload ≡ data_span p → bits ≡ byte_within (not udp) end p (start + 13) → at ≡ place_within true end (start + sum) 2
    → segment_plan_from src dst payload bits at ≡ segment_plan_of p
segment_plan-there p udp start end sum src dst payload bits at there is_kind is_start is_end is_sum is_src is_dst is_payload is_bits is_at =
    let src_is : src ≡ packet_span SrcPort p = is_src ∙ cong3 (λ (b : Bool) (n k : ℕ). span_within b n (k + 0) 2) (sym there) is_end is_start in
    let dst_is : dst ≡ packet_span DstPort p = is_dst ∙ cong3 (λ (b : Bool) (n k : ℕ). span_within b n (k + 2) 2) (sym there) is_end is_start in
    let bits_is : bits ≡ control_bits p = is_bits ∙ control_place p udp start end there is_kind is_start is_end in
    let at_is : at ≡ segment_sum_at p = is_at ∙ cong3 (λ (b : Bool) (n k : ℕ). place_within b n k 2) (sym there) is_end (sum_place p udp start sum is_kind is_start is_sum) in
    plan_parts src_is dst_is is_payload bits_is at_is
