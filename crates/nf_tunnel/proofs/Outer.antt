-- A packet with an outer header before its own.
use Rattle.std.proofs.Common.{◌≡◌, ◌≤◌, ◌+◌, ◌*◌, ◌/◌, ◌%◌, ◌∙◌, ℕ, List, [], ◌∷◌, ◌++◌, sum, length, take, drop, get_or, length-append, length-take-le, true, ◌&&◌, sym, ap, subst, refl, arith}
use Rattle.std.specs.Prelude.{nat_lt, ◌==◌}
use Rattle.std.specs.Net.Addr.{ipv4_octets}
use Rattle.std.proofs.lemmas.Bool.{and_from, lt-ltb, eq-eqb, cond-false}
use Rattle.std.proofs.lemmas.List.{take_at, drop_at}
use Rattle.packet_fields.specs.Frames.{word}
use Rattle.packet_fields.specs.Packets.{header_word, is_ipv4, is_ipv6, header_len, datagram_len}
use Rattle.packet_fields.specs.Checksums.{words, word_bytes, header_of, IsRight}
use Rattle.packet_fields.proofs.Overwriting.{cong3}
use Rattle.packet_fields.proofs.Rightness.{part_two, sum-cons}
use Rattle.packet_fields.proofs.WordSums.{words-two}
use Rattle.packet_fields.proofs.Versions.{begins_ipv4, header_len-ipv4, is_ipv4-alone}
use Rattle.internet_checksum.specs.Checksums.{checksum_of}
use Rattle.internet_checksum.specs.Laws.{with_checksum, ChecksumsAreRight}
use Rattle.nf_tunnel.specs.declared.encap.Encap.{Encap}
use Rattle.nf_tunnel.specs.OuterHeaders.{type_of_service, outer_len, flags, outer_with, outer_header}
use Rattle.nf_tunnel.specs.Headers.{HasHeader}
use Rattle.nf_tunnel.proofs.Headers.{header_from}

-- a tunnel whose addresses have four bytes each
pub record HasAddresses (tunnel : Encap) : Type 0 where
  pub entry : length (ipv4_octets tunnel.entry) ≡ 4
  pub exit : length (ipv4_octets tunnel.exit) ≡ 4

pub four_bytes : (xs : List ℕ) → length xs ≡ 4 → xs ≡ get_or xs 0 0 ∷ get_or xs 1 0 ∷ get_or xs 2 0 ∷ get_or xs 3 0 ∷ []
four_bytes (a ∷ b ∷ c ∷ d ∷ []) four = refl
four_bytes xs four = absurd (omega arith)

pub length_outer : (tunnel : Encap) (p : List ℕ) → HasAddresses tunnel → length (outer_header tunnel p) ≡ 20
unfolding outer_header
length_outer tunnel p h = omega (arith, length-append (ipv4_octets tunnel.entry) (ipv4_octets tunnel.exit), h.entry, h.exit)

-- byte by byte, from its EtherType on
abbrev spelled : (a b c : ℕ) → Encap → List ℕ → List ℕ → List ℕ → List ℕ → List ℕ
spelled a b c tunnel p source destination rest =
    a ∷ b ∷ 0x45 ∷ type_of_service p ∷ (outer_len p / 256) ∷ (outer_len p % 256) ∷ 0 ∷ 0 ∷ flags p ∷ 0 ∷ tunnel.ttl ∷ 4 ∷ (c / 256) ∷ (c % 256)
    ∷ get_or source 0 0 ∷ get_or source 1 0 ∷ get_or source 2 0 ∷ get_or source 3 0
    ∷ get_or destination 0 0 ∷ get_or destination 1 0 ∷ get_or destination 2 0 ∷ get_or destination 3 0 ∷ rest

spelled_is : (tunnel : Encap) (c : ℕ) (p : List ℕ) → HasAddresses tunnel → 2 ≤ length p
    → take 2 p ++ (outer_with c tunnel p ++ drop 2 p) ≡ spelled (get_or p 0 0) (get_or p 1 0) c tunnel p (ipv4_octets tunnel.entry) (ipv4_octets tunnel.exit) (drop 2 p)
spelled_is tunnel c p h room =
    cong3
    (λ (kind source destination : List ℕ). kind ++ (((0x45 ∷ type_of_service p ∷ word_bytes (outer_len p)) ++ (0 ∷ 0 ∷ flags p ∷ 0 ∷ []) ++ (tunnel.ttl ∷ 4 ∷ word_bytes c) ++ source ++ destination) ++ drop 2 p))
    (part_two p 0 room)
    (four_bytes (ipv4_octets tunnel.entry) h.entry)
    (four_bytes (ipv4_octets tunnel.exit) h.exit)

spelled_ipv4 : (a b c : ℕ) (tunnel : Encap) (p source destination rest : List ℕ) → a * 256 + b ≡ 0x0800 → is_ipv4 (spelled a b c tunnel p source destination rest) ≡ true
unfolding is_ipv4
spelled_ipv4 a b c tunnel p source destination rest kind =
    let q = spelled a b c tunnel p source destination rest in
    and_from (nat_lt 2 (length q)) ((a * 256 + b == 0x0800) && true) (lt-ltb 2 (length q) (omega arith))
    (and_from (a * 256 + b == 0x0800) true (eq-eqb (a * 256 + b) 0x0800 kind) refl)

-- what is known about such a packet
pub record HasOuter (tunnel : Encap) (p q : List ℕ) : Type 0 where
  pub header : HasHeader q
  pub len : header_len q ≡ 20
  pub datagram : datagram_len q ≡ outer_len p
  pub tos : get_or q 3 0 ≡ type_of_service p
  pub fragment : header_word q 6 ≡ flags p * 256
  pub ttl : get_or q 10 0 ≡ tunnel.ttl
  pub protocol : get_or q 11 0 ≡ 4
  pub source : take 4 (drop 14 q) ≡ ipv4_octets tunnel.entry
  pub destination : take 4 (drop 18 q) ≡ ipv4_octets tunnel.exit
  pub inner : drop 22 q ≡ drop 2 p
  pub own : header_of q ≡ outer_header tunnel p

pub has_outer : (tunnel : Encap) (p : List ℕ) → HasAddresses tunnel → is_ipv4 p ≡ true → HasOuter tunnel p (take 2 p ++ (outer_header tunnel p ++ drop 2 p))
unfolding outer_header
has_outer tunnel p h there =
    let begins = begins_ipv4 p there in
    let c = checksum_of (outer_with 0 tunnel p) in
    let q = take 2 p ++ (outer_header tunnel p ++ drop 2 p) in
    let e = spelled_is tunnel c p h (omega arith) in
    let kind : get_or p 0 0 * 256 + get_or p 1 0 ≡ 0x0800 = begins.kind in
    let four : is_ipv4 q ≡ true = subst (λ (xs : List ℕ). is_ipv4 xs ≡ true) (sym e) (spelled_ipv4 (get_or p 0 0) (get_or p 1 0) c tunnel p (ipv4_octets tunnel.entry) (ipv4_octets tunnel.exit) (drop 2 p) kind) in
    let first : get_or q 2 0 ≡ 0x45 = ap (λ (xs : List ℕ). get_or xs 2 0) e in
    let len : header_len q ≡ 20 = (header_len-ipv4 q four).0 ∙ ap (λ (n : ℕ). 4 * (n % 16)) first in
    let long : 22 ≤ length q = omega (arith, ap (λ (xs : List ℕ). length xs) e) in
    let total : header_word q 2 ≡ (outer_len p / 256) * 256 + outer_len p % 256 = ap (λ (xs : List ℕ). header_word xs 2) e in
    let twenty = length_outer tunnel p h in
    let two : length (take 2 p) ≡ 2 = length-take-le 2 p (omega arith) in
    record {
      header = header_from q four (omega (arith, len, long));
      len = len;
      datagram = cond-false (is_ipv6 q) (header_word q 4 + 40) (header_word q 2) (is_ipv4-alone q four) ∙ (total ∙ omega arith);
      tos = ap (λ (xs : List ℕ). get_or xs 3 0) e;
      fragment = ap (λ (xs : List ℕ). header_word xs 6) e ∙ omega arith;
      ttl = ap (λ (xs : List ℕ). get_or xs 10 0) e;
      protocol = ap (λ (xs : List ℕ). get_or xs 11 0) e;
      source = ap (λ (xs : List ℕ). take 4 (drop 14 xs)) e ∙ sym (four_bytes (ipv4_octets tunnel.entry) h.entry);
      destination = ap (λ (xs : List ℕ). take 4 (drop 18 xs)) e ∙ sym (four_bytes (ipv4_octets tunnel.exit) h.exit);
      inner = ap (λ (xs : List ℕ). drop 22 xs) e;
      own = ap (λ (n : ℕ). take n (drop 2 q)) len ∙ (ap (λ (xs : List ℕ). take 20 xs) (drop_at (take 2 p) (outer_header tunnel p ++ drop 2 p) 2 two) ∙ take_at (outer_header tunnel p) (drop 2 p) 20 twenty);
    }

-- the sum of an outer header is all ones
pub right_outer : ChecksumsAreRight → (tunnel : Encap) (p : List ℕ) → IsRight (words (outer_header tunnel p))
unfolding outer_header
right_outer law tunnel p =
    let before : List ℕ = 0x45 ∷ type_of_service p ∷ (outer_len p / 256) ∷ (outer_len p % 256) ∷ 0 ∷ 0 ∷ flags p ∷ 0 ∷ tunnel.ttl ∷ 4 ∷ [] in
    let behind : List ℕ = ipv4_octets tunnel.entry ++ ipv4_octets tunnel.exit in
    let blank = with_checksum before 0 behind in
    let first = ap (λ (ws : List ℕ). sum ws) (words-two blank (omega arith)) ∙ sum-cons (word blank 0) (words (drop 2 blank)) in
    law before behind refl (omega (arith, first))
