-- Properties of a packet with an IPv4 header, by the tests that it meets.
use Rattle.std.proofs.Common.{◌≡◌, ◌≤◌, ◌+◌, ◌∙◌, ℕ, List, length, Bool, true, false, ◌&&◌, sym, ap, refl, arith}
use Rattle.std.specs.Prelude.{Option, Some, None, if◌then◌else◌, nat_le}
use Rattle.std.proofs.lemmas.Option.{none-some}
use Rattle.std.proofs.lemmas.Bool.{and_parts, and_from, leb-true, le-leb, cond-false}
use Rattle.packet_fields.specs.Packets.{header_word, is_ipv4, is_ipv6, header_len, datagram_len, segment_at}
use Rattle.packet_fields.specs.declared.plan.Span.{Span}
use Rattle.packet_fields.proofs.Versions.{header_len-ipv4, is_ipv4-alone}
use Rattle.nf_tunnel.specs.declared.decap.Decap.{Decap}
use Rattle.nf_tunnel.specs.Tunnels.{has_ipv4_header, fits, enters, arrives, leaves}
use Rattle.nf_tunnel.specs.Headers.{HasHeader, Enters}

pub header_from : (p : List ℕ) → is_ipv4 p ≡ true → segment_at p ≤ length p → HasHeader p
header_from p there captured =
    let h = header_len-ipv4 p there in
    let least : 20 ≤ header_len p = h.1 in
    record {
      there = there;
      captured = captured;
      room = omega arith;
      least = least;
      datagram = cond-false (is_ipv6 p) (header_word p 4 + 40) (header_word p 2) (is_ipv4-alone p there);
    }

pub header_there : (p : List ℕ) → has_ipv4_header p ≡ true → HasHeader p
header_there p test =
    let a = and_parts (is_ipv4 p) (nat_le (segment_at p) (length p)) test in
    header_from p a.0 (leb-true (segment_at p) (length p) a.1)

pub header_test : (p : List ℕ) → HasHeader p → has_ipv4_header p ≡ true
header_test p h = and_from (is_ipv4 p) (nat_le (segment_at p) (length p)) h.there (le-leb (segment_at p) (length p) h.captured)

pub no_some : (b : Bool) (x : ℕ) → (if b then Some x else None) ≡ None → b ≡ false
no_some false x none = refl
no_some true x none = absurd (none-some x (sym none))

-- a test of a packet, stated for the same bytes
pub same_test : (test : List ℕ → Bool) (q p : List ℕ) (told b : Bool) → q ≡ p → told ≡ test q → told ≡ b → test p ≡ b
same_test test q p told b same is here = sym (ap test same) ∙ (sym is ∙ here)

-- an outer header after the EtherType at this place
abbrev pub span_at : ℕ → ℕ → Option Span
span_at start len = Some (record { at = start + 2; len = len })

pub not_entering : (p : List ℕ) → has_ipv4_header p ≡ false → enters p ≡ false
unfolding enters
not_entering p none = ap (λ (b : Bool). b && fits p) none

pub entering_by : (p : List ℕ) → HasHeader p → enters p ≡ fits p
unfolding enters
entering_by p h = ap (λ (b : Bool). b && fits p) (header_test p h)

pub entering : (p : List ℕ) → enters p ≡ true → Enters p
unfolding enters
entering p test =
    let a = and_parts (has_ipv4_header p) (fits p) test in
    let b = and_parts (nat_le (header_len p) (datagram_len p)) (nat_le (datagram_len p) 65515) a.1 in
    record { header = header_there p a.0; within = leb-true (header_len p) (datagram_len p) b.0; short = leb-true (datagram_len p) 65515 b.1 }

pub leaving : (tunnel : Decap) (p : List ℕ) → leaves tunnel p ≡ true → HasHeader p
unfolding leaves
leaving tunnel p test = header_there p (and_parts (has_ipv4_header p) (arrives tunnel p) test).0

pub not_leaving : (tunnel : Decap) (p : List ℕ) → has_ipv4_header p ≡ false → leaves tunnel p ≡ false
unfolding leaves
not_leaving tunnel p none = ap (λ (b : Bool). b && arrives tunnel p) none

pub leaving_by : (tunnel : Decap) (p : List ℕ) → HasHeader p → leaves tunnel p ≡ arrives tunnel p
unfolding leaves
leaving_by tunnel p h = ap (λ (b : Bool). b && arrives tunnel p) (header_test p h)
