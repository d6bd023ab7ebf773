-- The checksums of each frame are there and right.
use Rattle.std.proofs.Common.{◌≡◌, ◌≢◌, ◌≤◌, ◌<◌, ◌+◌, ◌-◌, ◌*◌, ◌/◌, ◌%◌, ◌∙◌, ℕ, suc, zero, List, ◌∷◌, ◌++◌, sum, length, take, drop, Bool, true, false, min, inr, sym, ap, refl, subst, arith, ⊎_elim}
use Rattle.std.specs.Prelude.{All, Option, Some, None, IsSome, nat_le, nat_lt, if◌then◌else◌, ◌==◌, ◌&&◌, ◌||◌}
use Rattle.std.proofs.lemmas.Bool.{and_from, cases_eq, cond-true, cond-false, cond_both, le-leb, lt-ltb, ne_eqb}
use Rattle.std.proofs.lemmas.List.{take_rest}
use Rattle.capture_bytes.specs.declared.packet.PcapRecord.{PcapRecord}
use Rattle.packet_fields.specs.Checksums.{HasRightSums, IsRight, folded, header_of, addresses_of, pseudo_header as pseudo_header_in, segment_len as segment_len_in, segment_of, words}
use Rattle.packet_fields.proofs.Rightness.{sum-append}
use Rattle.packet_fields.proofs.Summed.{own_length}
use Rattle.packet_fields.specs.Frames.{packet, tags_len, word}
use Rattle.packet_fields.specs.Packets.{by_version, checksum_at, datagram_end, datagram_len, has_transport, has_udp_len, header_byte, header_len, header_sum_at, header_word, in_header, is_ipv4, is_ipv6, is_udp, protocol_at, segment_at, segment_sum_at, summed_end, udp_len}
use Rattle.internet_checksum.specs.Checksums.{checksum_of}
use Rattle.internet_checksum.proofs.Complements.{complement_right, folded_some}
use Rattle.demo_capture.specs.declared.draws.Draws.{Draws}
use Rattle.demo_capture.specs.Draws.{destination_port_of, draws_after, is_tcp, number_after, payload_len, payload_of, protocol_of, source_port_of}
use Rattle.demo_capture.specs.DemoFrames.{frame_of, frame_with, ip_header, ip_header_with, pseudo_header, segment_checksum, segment_len, segment_with, tcp_header, udp_header}
use Rattle.demo_capture.specs.DemoCapture.{demo_records, record_of, records_from}
use Rattle.demo_capture.specs.Written.{WritesSums}
use Rattle.demo_capture.proofs.Ipv4Packets.{alone_false, transport_there}
use Rattle.demo_capture.proofs.Lengths.{length_frame, length_segment, length_segment_with}
use Rattle.demo_capture.proofs.Sums.{sum_pseudo}

-- a sum and its complement, with 0 written as ones

ones_core : (s f total : ℕ) → 0 < s → f ≡ (s - 1) % 0xffff + 1 → 0xffff - f ≡ 0 → total ≡ s + 0xffff → (total - 1) % 0xffff + 1 ≡ 0xffff
ones_core s f total some is_f none is_total = omega arith

written_right : (b : Bool) (s c total : ℕ) → 0 < s → c ≡ 0xffff - folded s → total ≡ s + (if b then c else (if c == 0 then 0xffff else c)) → folded total ≡ 0xffff
written_right true s c total some is_c is_total = complement_right s c total some is_c is_total
written_right false s c total some is_c is_total =
    ⊎_elim
    (λ (none : c ≡ 0).
    let w : (if c == 0 then 0xffff else c) ≡ 0xffff = ap (λ (n : ℕ). if n == 0 then 0xffff else n) none in
    folded_some total (omega arith) ∙ ones_core s (folded s) total some (folded_some s some) (sym is_c ∙ none) (omega arith))
    (λ (more : c ≡ 0 → ⊥).
    let w : (if c == 0 then 0xffff else c) ≡ c = cond-false (c == 0) 0xffff c (ne_eqb c 0 more) in
    complement_right s c total some is_c (omega arith))
    (cases_eq c 0)

written_some : (b : Bool) (c : ℕ) → b ≡ false → (if b then c else (if c == 0 then 0xffff else c)) ≢ 0
written_some true c is = absurd (cc)
written_some false c is =
    ⊎_elim
    (λ (none : c ≡ 0).
    let w : (if c == 0 then 0xffff else c) ≡ 0xffff = ap (λ (n : ℕ). if n == 0 then 0xffff else n) none in
    λ e. omega arith)
    (λ (more : c ≡ 0 → ⊥).
    let w : (if c == 0 then 0xffff else c) ≡ c = cond-false (c == 0) 0xffff c (ne_eqb c 0 more) in
    λ e. more (sym w ∙ e))
    (cases_eq c 0)

-- an IPv4 packet of the demo, from its EtherType on: its total length, protocol and checksum, the bytes of its addresses that
-- vary, and what follows its header
abbrev ip_packet : ℕ → ℕ → ℕ → ℕ → ℕ → ℕ → List ℕ → List ℕ
ip_packet total protocol k net host to xs =
    8 ∷ 0 ∷ 0x45 ∷ 0 ∷ (total / 256) ∷ (total % 256) ∷ 0 ∷ 0 ∷ 0 ∷ 0 ∷ 64 ∷ protocol ∷ (k / 256) ∷ (k % 256) ∷ 10 ∷ 0 ∷ net ∷ host ∷ 198 ∷ 51 ∷ 100 ∷ to ∷ xs

abbrev packet_of : ℕ → Draws → List ℕ
packet_of c r = ip_packet (20 + segment_len r) (protocol_of r) (checksum_of (ip_header_with 0 r)) (r.a % 4) (1 + (r.a / 4) % 200) (1 + r.b % 8) (segment_with c r)

packet_is : (c : ℕ) (r : Draws) → packet (frame_with c r) ≡ packet_of c r
unfolding frame_with ip_header tags_len
packet_is c r =
    ap (λ (n : ℕ). drop n (frame_with c r))
    (cond-true (nat_le 14 (length (frame_with c r))) (tags_len (drop 12 (frame_with c r)) + 12) (length (frame_with c r)) (le-leb 14 (length (frame_with c r)) (omega (arith, length_frame c r))))

module _ (total k net host to : ℕ) (xs : List ℕ) where
  ipv4_is : (protocol : ℕ) → is_ipv4 (ip_packet total protocol k net host to xs) ≡ true
  unfolding is_ipv4
  ipv4_is protocol = and_from (nat_lt 2 (length (ip_packet total protocol k net host to xs))) true (lt-ltb 2 (length (ip_packet total protocol k net host to xs)) (omega arith)) refl

  header_there : (protocol : ℕ) → header_sum_at (ip_packet total protocol k net host to xs) ≡ Some 12
  header_there protocol =
      let p = ip_packet total protocol k net host to xs in
      cond-true (is_ipv4 p && nat_le 14 (length p)) (Some 12) None (and_from (is_ipv4 p) (nat_le 14 (length p)) (ipv4_is protocol) (le-leb 14 (length p) (omega arith)))

  not_ipv6 : (protocol : ℕ) → is_ipv6 (ip_packet total protocol k net host to xs) ≡ false
  unfolding is_ipv6
  not_ipv6 protocol = alone_false (nat_lt 2 (length (ip_packet total protocol k net host to xs)))

  -- so its numbers are those of IPv4
  four : (protocol m n : ℕ) → by_version (ip_packet total protocol k net host to xs) m n ≡ m
  four protocol m n = cond-false (is_ipv6 (ip_packet total protocol k net host to xs)) n m (not_ipv6 protocol)

  len_is : (protocol : ℕ) → datagram_len (ip_packet total protocol k net host to xs) ≡ (total / 256) * 256 + total % 256
  len_is protocol = let p = ip_packet total protocol k net host to xs in four protocol (header_word p 2) (header_word p 4 + 40)

  end_is : (protocol : ℕ) → total ≡ 20 + length xs → datagram_end (ip_packet total protocol k net host to xs) ≡ 22 + length xs
  end_is protocol is = omega (arith, len_is protocol)

  begins_at : (protocol : ℕ) → segment_at (ip_packet total protocol k net host to xs) ≡ 22
  begins_at protocol = ap in_header (four protocol 20 40)

  -- if it is UDP, its own length is that of what follows the header
  abbrev OwnLength : ℕ → Type 0
  OwnLength protocol = is_udp (ip_packet total protocol k net host to xs) ≡ true → udp_len (ip_packet total protocol k net host to xs) ≡ length xs

  summed_is : (protocol : ℕ) → total ≡ 20 + length xs → OwnLength protocol → summed_end (ip_packet total protocol k net host to xs) ≡ 22 + length xs
  summed_is protocol is own =
      let p = ip_packet total protocol k net host to xs in
      cond_both (has_udp_len p) (min (datagram_end p) (segment_at p + udp_len p)) (datagram_end p) (λ (n : ℕ). n ≡ 22 + length xs)
      (λ there. let len = own (own_length p there).0 in omega (arith, end_is protocol is, begins_at protocol, len)) (λ _. end_is protocol is)

  segment_is : (protocol : ℕ) → total ≡ 20 + length xs → OwnLength protocol → segment_of (ip_packet total protocol k net host to xs) ≡ xs
  segment_is protocol is own =
      let p = ip_packet total protocol k net host to xs in
      let len : summed_end p - 22 ≡ length xs - 0 = omega (arith, summed_is protocol is own) in
      ap (λ (at : ℕ). take (summed_end p - at) (drop at p)) (begins_at protocol) ∙ ap (λ (n : ℕ). take n xs) len ∙ take_rest xs 0

  segment_len_is : (protocol : ℕ) → total ≡ 20 + length xs → OwnLength protocol → segment_len_in (ip_packet total protocol k net host to xs) ≡ total - 20
  segment_len_is protocol is own =
      let p = ip_packet total protocol k net host to xs in
      let header : header_len p ≡ 20 = four protocol 20 40 in
      cond_both (has_udp_len p) (udp_len p) (datagram_len p - header_len p) (λ (n : ℕ). n ≡ total - 20)
      (λ there. let len = own (own_length p there).0 in omega (arith, len, is)) (λ _. omega (arith, len_is protocol, header))

  transport_is : (protocol : ℕ) → ((protocol == 6) || (protocol == 17)) ≡ true → total ≡ 20 + length xs → has_transport (ip_packet total protocol k net host to xs) ≡ true
  transport_is protocol known is =
      let p = ip_packet total protocol k net host to xs in
      let fits : nat_le 20 ((total / 256) * 256 + total % 256) ≡ true = le-leb 20 ((total / 256) * 256 + total % 256) (omega arith) in
      transport_there p (ipv4_is protocol) (not_ipv6 protocol) (omega arith) known refl fits

  tcp_sum_at : checksum_at (ip_packet total 6 k net host to xs) ≡ 38
  tcp_sum_at =
      let p = ip_packet total 6 k net host to xs in
      let other : is_udp p ≡ false = ap (λ (at : ℕ). header_byte p at == 17) (four 6 9 6) in
      cond-false (is_udp p) (segment_at p + 6) (segment_at p + 16) other ∙ ap (λ (at : ℕ). at + 16) (begins_at 6)

  udp_sum_at : checksum_at (ip_packet total 17 k net host to xs) ≡ 28
  udp_sum_at =
      let p = ip_packet total 17 k net host to xs in
      let own : is_udp p ≡ true = ap (λ (at : ℕ). header_byte p at == 17) (four 17 9 6) in
      cond-true (is_udp p) (segment_at p + 6) (segment_at p + 16) own ∙ ap (λ (at : ℕ). at + 6) (begins_at 17)

  segment_there : (b : Bool) → total ≡ 20 + length xs → (if b then 20 else 8) ≤ length xs → IsSome (segment_sum_at (ip_packet total (if b then 6 else 17) k net host to xs))
  segment_there true is long =
      let p = ip_packet total 6 k net host to xs in
      let fits : nat_le (checksum_at p + 2) (datagram_end p) ≡ true = le-leb (checksum_at p + 2) (datagram_end p) (omega (arith, end_is 6 is, tcp_sum_at)) in
      let here : segment_sum_at p ≡ Some (checksum_at p) = cond-true (has_transport p && nat_le (checksum_at p + 2) (datagram_end p)) (Some (checksum_at p)) None (and_from (has_transport p) (nat_le (checksum_at p + 2) (datagram_end p)) (transport_is 6 refl is) fits) in
      subst (λ (o : Option ℕ). IsSome o) (sym here) refl
  segment_there false is long =
      let p = ip_packet total 17 k net host to xs in
      let fits : nat_le (checksum_at p + 2) (datagram_end p) ≡ true = le-leb (checksum_at p + 2) (datagram_end p) (omega (arith, end_is 17 is, udp_sum_at)) in
      let here : segment_sum_at p ≡ Some (checksum_at p) = cond-true (has_transport p && nat_le (checksum_at p + 2) (datagram_end p)) (Some (checksum_at p)) None (and_from (has_transport p) (nat_le (checksum_at p + 2) (datagram_end p)) (transport_is 17 refl is) fits) in
      subst (λ (o : Option ℕ). IsSome o) (sym here) refl

  -- the sum of the header, its checksum included
  header_sum : (protocol : ℕ) → sum (words (header_of (ip_packet total protocol k net host to xs))) ≡ 0x4500 + total + (0x4000 + protocol) + k + 0x0a00 + (net * 256 + host) + 0xc633 + (0x6400 + to)
  unfolding words
  header_sum protocol = by (is_ipv6 p) (not_ipv6 protocol)
    where
      p : List ℕ
      p = ip_packet total protocol k net host to xs

      by : (six : Bool) → six ≡ false → sum (words (take (if six then 40 else 20) (drop 2 (ip_packet total protocol k net host to xs)))) ≡ 0x4500 + total + (0x4000 + protocol) + k + 0x0a00 + (net * 256 + host) + 0xc633 + (0x6400 + to)
      by false is = omega arith
      by true is = absurd cc

  pseudo_sum : (protocol : ℕ) → total ≡ 20 + length xs → OwnLength protocol → sum (pseudo_header_in (ip_packet total protocol k net host to xs)) ≡ protocol + (total - 20) + 0x0a00 + (net * 256 + host) + 0xc633 + (0x6400 + to)
  unfolding words
  pseudo_sum protocol is own = ap (λ (n : ℕ). sum (header_byte p (protocol_at p) ∷ n ∷ words (addresses_of p))) (segment_len_is protocol is own) ∙ by (is_ipv6 p) (not_ipv6 protocol)
    where
      p : List ℕ
      p = ip_packet total protocol k net host to xs

      by : (six : Bool) → six ≡ false →
          sum (header_byte p (if six then 6 else 9) ∷ (total - 20) ∷ words (take (2 * (if six then 16 else 4)) (drop (in_header (if six then 8 else 12)) p)))
          ≡ protocol + (total - 20) + 0x0a00 + (net * 256 + host) + 0xc633 + (0x6400 + to)
      by false is = omega arith
      by true is = absurd cc

-- the sum of a header of the demo without its checksum
own_header_sum : (r : Draws) → sum (words (ip_header_with 0 r)) ≡ 0x4500 + (20 + segment_len r) + (0x4000 + protocol_of r) + 0x0a00 + ((r.a % 4) * 256 + (1 + (r.a / 4) % 200)) + 0xc633 + (0x6400 + (1 + r.b % 8))
unfolding words
own_header_sum r = omega arith

own_pseudo_sum : (r : Draws) → sum (words (pseudo_header r)) ≡ 0x0a00 + ((r.a % 4) * 256 + (1 + (r.a / 4) % 200)) + 0xc633 + (0x6400 + (1 + r.b % 8)) + protocol_of r + segment_len r
unfolding words
own_pseudo_sum r = omega arith

header_right : (c : ℕ) (r : Draws) → IsRight (words (header_of (packet_of c r)))
unfolding checksum_of
header_right c r =
    let s = sum (words (ip_header_with 0 r)) in
    let own = own_header_sum r in
    let whole = header_sum (20 + segment_len r) (checksum_of (ip_header_with 0 r)) (r.a % 4) (1 + (r.a / 4) % 200) (1 + r.b % 8) (segment_with c r) (protocol_of r) in
    complement_right s (checksum_of (ip_header_with 0 r)) (sum (words (header_of (packet_of c r)))) (omega (arith, own)) refl (omega (arith, own, whole))

-- the sum of a segment, with its checksum and without it

tcp_sum : (c : ℕ) (r : Draws) (xs : List ℕ) → sum (words (tcp_header c r ++ xs)) ≡ source_port_of r + destination_port_of r + 0x5010 + c + sum (words xs)
unfolding words
tcp_sum c r xs = omega (arith, sum-append (words (tcp_header c r)) (words xs))

udp_sum : (c : ℕ) (r : Draws) (xs : List ℕ) → sum (words (udp_header c r ++ xs)) ≡ source_port_of r + destination_port_of r + (8 + length (payload_of r)) + c + sum (words xs)
unfolding words
udp_sum c r xs = omega (arith, sum-append (words (udp_header c r)) (words xs))

sum_by : (b : Bool) (c : ℕ) (r : Draws) (xs : List ℕ) → sum (words ((if b then tcp_header c r else udp_header c r) ++ xs)) ≡ sum (words ((if b then tcp_header 0 r else udp_header 0 r) ++ xs)) + c
sum_by true c r xs = omega (arith, tcp_sum c r xs, tcp_sum 0 r xs)
sum_by false c r xs = omega (arith, udp_sum c r xs, udp_sum 0 r xs)

segment_sum : (c : ℕ) (r : Draws) → sum (words (segment_with c r)) ≡ sum (words (segment_with 0 r)) + c
unfolding segment_with
segment_sum c r = sum_by (is_tcp r) c r (payload_of r)

same_len : (c : ℕ) (r : Draws) → 20 + segment_len r ≡ 20 + length (segment_with c r)
same_len c r = omega (arith, length_segment r, length_segment_with c r)

-- UDP's own length is that of its datagram

own_by : (b : Bool) (total k net host to c : ℕ) (r : Draws)
    → is_udp (ip_packet total (if b then 6 else 17) k net host to ((if b then tcp_header c r else udp_header c r) ++ payload_of r)) ≡ true
    → udp_len (ip_packet total (if b then 6 else 17) k net host to ((if b then tcp_header c r else udp_header c r) ++ payload_of r)) ≡ length ((if b then tcp_header c r else udp_header c r) ++ payload_of r)
own_by true total k net host to c r udp =
    let p = ip_packet total 6 k net host to (tcp_header c r ++ payload_of r) in
    let other : false ≡ true = sym (ap (λ (at : ℕ). header_byte p at == 17) (four total k net host to (tcp_header c r ++ payload_of r) 6 9 6)) ∙ udp in
    absurd cc
own_by false total k net host to c r udp =
    let p = ip_packet total 17 k net host to (udp_header c r ++ payload_of r) in
    let n : ℕ = 8 + length (payload_of r) in
    let there : udp_len p ≡ (n / 256) * 256 + n % 256 = ap (λ (at : ℕ). word p (at + 4)) (begins_at total k net host to (udp_header c r ++ payload_of r) 17) in
    omega (arith, there)

own_written : (c : ℕ) (r : Draws) → is_udp (packet_of c r) ≡ true → udp_len (packet_of c r) ≡ length (segment_with c r)
unfolding segment_with
own_written c r = own_by (is_tcp r) (20 + segment_len r) (checksum_of (ip_header_with 0 r)) (r.a % 4) (1 + (r.a / 4) % 200) (1 + r.b % 8) c r

-- the whole sum after a checksum
whole_sum : (c : ℕ) (r : Draws) → sum (pseudo_header_in (packet_of c r) ++ words (segment_of (packet_of c r))) ≡ sum (words (pseudo_header r ++ segment_with 0 r)) + c
whole_sum c r =
    let front = sum-append (pseudo_header_in (packet_of c r)) (words (segment_of (packet_of c r))) in
    let pseudo = pseudo_sum (20 + segment_len r) (checksum_of (ip_header_with 0 r)) (r.a % 4) (1 + (r.a / 4) % 200) (1 + r.b % 8) (segment_with c r) (protocol_of r) (same_len c r) (own_written c r) in
    let behind : sum (words (segment_of (packet_of c r))) ≡ sum (words (segment_with c r)) =
    ap (λ (xs : List ℕ). sum (words xs)) (segment_is (20 + segment_len r) (checksum_of (ip_header_with 0 r)) (r.a % 4) (1 + (r.a / 4) % 200) (1 + r.b % 8) (segment_with c r) (protocol_of r) (same_len c r) (own_written c r)) in
    omega (arith, front, pseudo, behind, own_pseudo_sum r, sum_pseudo r (segment_with 0 r), segment_sum c r)

segment_right : (r : Draws) → IsRight (pseudo_header_in (packet_of (segment_checksum r) r) ++ words (segment_of (packet_of (segment_checksum r) r)))
unfolding checksum_of segment_checksum
segment_right r =
    written_right (is_tcp r) (sum (words (pseudo_header r ++ segment_with 0 r))) (checksum_of (pseudo_header r ++ segment_with 0 r)) (sum (pseudo_header_in (packet_of (segment_checksum r) r) ++ words (segment_of (packet_of (segment_checksum r) r))))
    (omega (arith, sum_pseudo r (segment_with 0 r), own_pseudo_sum r)) refl (whole_sum (segment_checksum r) r)

-- the checksum of UDP in its place isn't 0

udp_by : (b : Bool) (total k net host to c : ℕ) (r : Draws) (xs : List ℕ) → (b ≡ false → c ≢ 0)
    → is_udp (ip_packet total (if b then 6 else 17) k net host to ((if b then tcp_header c r else udp_header c r) ++ xs)) ≡ true
    → word (ip_packet total (if b then 6 else 17) k net host to ((if b then tcp_header c r else udp_header c r) ++ xs)) (checksum_at (ip_packet total (if b then 6 else 17) k net host to ((if b then tcp_header c r else udp_header c r) ++ xs))) ≢ 0
udp_by true total k net host to c r xs some udp =
    let p = ip_packet total 6 k net host to (tcp_header c r ++ xs) in
    let other : false ≡ true = sym (ap (λ (at : ℕ). header_byte p at == 17) (four total k net host to (tcp_header c r ++ xs) 6 9 6)) ∙ udp in
    absurd cc
udp_by false total k net host to c r xs some udp =
    let p = ip_packet total 17 k net host to (udp_header c r ++ xs) in
    let here : (c / 256) * 256 + c % 256 ≡ c = omega arith in
    let there : word p (checksum_at p) ≡ (c / 256) * 256 + c % 256 = ap (word p) (udp_sum_at total k net host to (udp_header c r ++ xs)) in
    λ e. some refl (sym here ∙ sym there ∙ e)

header_len_by : (b : Bool) (n m : ℕ) → m ≡ (if b then 20 else 8) + n → (if b then 20 else 8) ≤ m
header_len_by true n m is = omega arith
header_len_by false n m is = omega arith

-- what has to be shown for a packet
record IsWritten (p : List ℕ) : Type 0 where
  header_is : IsSome (header_sum_at p)
  header_is_right : IsRight (words (header_of p))
  segment_at_is : IsSome (segment_sum_at p)
  segment_is_right : IsRight (pseudo_header_in p ++ words (segment_of p))
  udp_is : is_udp p ≡ true → word p (checksum_at p) ≢ 0

packet_written : (r : Draws) → IsWritten (packet_of (segment_checksum r) r)
unfolding segment_checksum segment_with
packet_written r =
    let c = segment_checksum r in
    let k = checksum_of (ip_header_with 0 r) in
    record {
      header_is = subst (λ (o : Option ℕ). IsSome o) (sym (header_there (20 + segment_len r) k (r.a % 4) (1 + (r.a / 4) % 200) (1 + r.b % 8) (segment_with c r) (protocol_of r))) refl;
      header_is_right = header_right c r;
      segment_at_is = segment_there (20 + segment_len r) k (r.a % 4) (1 + (r.a / 4) % 200) (1 + r.b % 8) (segment_with c r) (is_tcp r) (same_len c r)
          (header_len_by (is_tcp r) (payload_len r) (length (segment_with c r)) (length_segment_with c r));
      segment_is_right = segment_right r;
      udp_is = udp_by (is_tcp r) (20 + segment_len r) k (r.a % 4) (1 + (r.a / 4) % 200) (1 + r.b % 8) c r (payload_of r) (written_some (is_tcp r) (checksum_of (pseudo_header r ++ segment_with 0 r)));
    }

frame_written : (r : Draws) → IsWritten (packet (frame_of r))
frame_written r = subst (λ (p : List ℕ). IsWritten p) (sym (packet_is (segment_checksum r) r)) (packet_written r)

frame_right : (i : ℕ) (r : Draws) → HasRightSums (record_of i r).frame
unfolding record_of
frame_right i r = let w = frame_written r in record { header = λ there. w.header_is_right; segment = λ there. inr w.segment_is_right }

frame_writes : (i : ℕ) (r : Draws) → WritesSums (record_of i r).frame
unfolding record_of
frame_writes i r = let w = frame_written r in record { header = w.header_is; segment = w.segment_at_is; udp = w.udp_is }

-- what holds for each record that is made holds for all
each_made : (P : PcapRecord → Type 0) → ((i : ℕ) (r : Draws) → P (record_of i r)) → (n i x : ℕ) → All P (records_from n i x)
unfolding records_from
each_made P each zero i x k d h = absurd (omega arith)
each_made P each (suc n) i x zero d h = each i (draws_after x)
each_made P each (suc n) i x (suc k) d h = each_made P each n (i + 1) (number_after 4 x) k d (omega arith)

pub all_right : (seed count : ℕ) → All (λ r. HasRightSums r.frame) (demo_records seed count)
all_right seed count = each_made (λ r. HasRightSums r.frame) frame_right count 1 seed

pub all_written : (seed count : ℕ) → All (λ r. WritesSums r.frame) (demo_records seed count)
all_written seed count = each_made (λ r. WritesSums r.frame) frame_writes count 1 seed
