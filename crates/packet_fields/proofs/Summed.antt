-- The data under a TCP or UDP checksum, which UDP's own length may end.
use Rattle.std.proofs.Common.{◌≡◌, ◌≤◌, ◌<◌, ◌+◌, ◌-◌, ◌*◌, ◌∙◌, ℕ, List, length, true, false, ◌&&◌, ◌||◌, min, sym, ap, refl, arith}
use Rattle.std.specs.Prelude.{Option, Some, None, nat_le, nat_lt, option_map}
use Rattle.std.proofs.lemmas.Bool.{and_parts, and_from, and_left, and_right, le-leb, lt-leb, leb-true, cond-true, cond-false}
use Rattle.std.proofs.lemmas.Option.{cond_some, same_Some, none-some}
use Rattle.packet_fields.specs.Packets.{has_transport, is_udp, segment_at, datagram_end, data_offset, data_at, has_data, data_span, udp_len, has_udp_len, summed_end, summed_span}
use Rattle.packet_fields.specs.declared.plan.Span.{Span}

-- a length of its own that counts is that of UDP, and counts the header
pub own_length : (p : List ℕ) → has_udp_len p ≡ true → (is_udp p ≡ true) × (8 ≤ udp_len p)
own_length p own =
    let both = and_parts (is_udp p) (nat_le 8 (udp_len p)) (and_parts (has_transport p) (is_udp p && nat_le 8 (udp_len p)) own).1 in
    (both.0, leb-true 8 (udp_len p) both.1)

-- what the span of the data shows
pub record DataFound (p : List ℕ) (s : Span) : Type 0 where
  pub test : has_data p ≡ true
  pub inside : data_at p ≤ datagram_end p
  pub at_is : s.at ≡ data_at p
  pub len_is : s.len ≡ datagram_end p - s.at

pub data_found : (p : List ℕ) (s : Span) → data_span p ≡ Some s → DataFound p s
data_found p s is =
    let test = cond_some (has_data p && nat_le (data_at p) (datagram_end p)) (record { at = data_at p; len = datagram_end p - data_at p }) s is in
    let both = and_parts (has_data p) (nat_le (data_at p) (datagram_end p)) test.0 in
    let at_is : s.at ≡ data_at p = ap (λ (x : Span). x.at) (sym test.1) in
    record {
      test = both.0;
      inside = leb-true (data_at p) (datagram_end p) both.1;
      at_is = at_is;
      len_is = ap (λ (x : Span). x.len) (sym test.1) ∙ ap (λ (n : ℕ). datagram_end p - n) (sym at_is);
    }

pub record SummedFound (p : List ℕ) (d : Span) : Type 0 where
  pub test : has_data p ≡ true
  pub inside : data_at p ≤ datagram_end p
  pub at_is : d.at ≡ data_at p
  pub len_is : d.len ≡ summed_end p - d.at

summed_by : (p : List ℕ) (o : Option Span) (d : Span) → data_span p ≡ o → option_map (λ s. record { at = s.at; len = summed_end p - s.at }) o ≡ Some d → SummedFound p d
summed_by p None d found is = absurd (none-some d is)
summed_by p (Some s) d found is =
    let f = data_found p s found in
    let same = same_Some (record { at = s.at; len = summed_end p - s.at }) d is in
    let at_is : d.at ≡ s.at = ap (λ (x : Span). x.at) (sym same) in
    record { test = f.test; inside = f.inside; at_is = at_is ∙ f.at_is; len_is = ap (λ (x : Span). x.len) (sym same) ∙ ap (λ (n : ℕ). summed_end p - n) (sym at_is) }

pub summed_found : (p : List ℕ) (d : Span) → summed_span p ≡ Some d → SummedFound p d
summed_found p d is = summed_by p (data_span p) d refl is

-- the same in code

summed_some : (p : List ℕ) (s : Span) (n : ℕ) → data_span p ≡ Some s → n ≡ summed_end p - s.at → Some (record { at = s.at; len = n }) ≡ summed_span p
summed_some p s n found is =
    ap (λ (k : ℕ). Some (record { at = s.at; len = k })) is ∙ sym (ap (λ (o : Option Span). option_map (λ s. record { at = s.at; len = summed_end p - s.at }) o) found)

whole_span : (s : Span) (n : ℕ) → s.len ≡ n → s ≡ record { at = s.at; len = n }
whole_span s n is = ap {B = Span} (λ (k : ℕ). record { at = s.at; len = k }) is

pub summed-whole : (p : List ℕ) (s : Span) → data_span p ≡ Some s → has_udp_len p ≡ false → Some s ≡ summed_span p
summed-whole p s found none =
    let ends : summed_end p ≡ datagram_end p = cond-false (has_udp_len p) (min (datagram_end p) (segment_at p + udp_len p)) (datagram_end p) none in
    let len : s.len ≡ summed_end p - s.at = (data_found p s found).len_is ∙ ap (λ (n : ℕ). n - s.at) (sym ends) in
    ap (λ (x : Span). Some x) (whole_span s (summed_end p - s.at) len) ∙ summed_some p s (summed_end p - s.at) found refl

-- where UDP's data begins
pub udp_data_at : (p : List ℕ) (s : Span) → data_span p ≡ Some s → is_udp p ≡ true → s.at ≡ segment_at p + 8
udp_data_at p s found udp = (data_found p s found).at_is ∙ cond-true (is_udp p) (segment_at p + 8) (4 * data_offset p + segment_at p) udp

-- UDP's own length may end the data
pub summed-own : (p : List ℕ) (s : Span) (n : ℕ) → data_span p ≡ Some s → is_udp p ≡ true → 8 ≤ udp_len p → n ≡ min s.len (udp_len p - 8) → Some (record { at = s.at; len = n }) ≡ summed_span p
summed-own p s n found udp counts is =
    let f = data_found p s found in
    let there = (and_parts (has_transport p) (is_udp p || (nat_lt (segment_at p + 12) (datagram_end p) && nat_le 5 (data_offset p))) f.test).0 in
    let own : has_udp_len p ≡ true = and_from (has_transport p) (is_udp p && nat_le 8 (udp_len p)) there (and_from (is_udp p) (nat_le 8 (udp_len p)) udp (le-leb 8 (udp_len p) counts)) in
    let ends : summed_end p ≡ min (datagram_end p) (segment_at p + udp_len p) = cond-true (has_udp_len p) (min (datagram_end p) (segment_at p + udp_len p)) (datagram_end p) own in
    let at = udp_data_at p s found udp in
    summed_some p s n found (omega (arith, is, f.len_is, f.inside, f.at_is, at, ends, counts))

pub short_length : (p : List ℕ) → udp_len p < 8 → has_udp_len p ≡ false
short_length p short = and_right (has_transport p) (is_udp p && nat_le 8 (udp_len p)) (and_right (is_udp p) (nat_le 8 (udp_len p)) (lt-leb 8 (udp_len p) short))

pub no_length : (p : List ℕ) → is_udp p ≡ false → has_udp_len p ≡ false
no_length p tcp = and_right (has_transport p) (is_udp p && nat_le 8 (udp_len p)) (and_left (is_udp p) (nat_le 8 (udp_len p)) tcp)
