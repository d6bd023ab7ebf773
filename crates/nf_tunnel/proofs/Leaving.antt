-- A frame after the exit of a tunnel.
use Rattle.std.proofs.Common.{◌≡◌, ◌≢◌, ◌<◌, ◌+◌, ◌*◌, ◌/◌, ◌%◌, ◌∙◌, ℕ, List, ◌++◌, length, take, drop, get_or, length-drop, length-append, true, false, ◌&&◌, sym, ap, arith, ⊎_elim}
use Rattle.std.specs.Prelude.{nat_lt, ◌==◌}
use Rattle.std.specs.Cmp.Lexicographic.{bytes_decides}
use Rattle.std.specs.Net.Addr.{ipv4_octets}
use Rattle.std.specs.declared.net.ipv4_addr.Ipv4Addr.{Ipv4Addr}
use Rattle.std.proofs.lemmas.Bool.{and_from, cases_Bool, cond-true, cond-false, lt-ltb, eq-eqb}
use Rattle.std.proofs.lemmas.List.{append_assoc, take-append-drop, take_at, drop_at, get_or-drop}
use Rattle.packet_fields.specs.Frames.{packet}
use Rattle.packet_fields.specs.Packets.{header_byte, header_word, header_len, datagram_len, segment_at}
use Rattle.packet_fields.proofs.Overwriting.{cong2}
use Rattle.packet_fields.proofs.Versions.{begins_ipv4}
use Rattle.nf_tunnel.specs.declared.encap.Encap.{Encap}
use Rattle.nf_tunnel.specs.declared.decap.Decap.{Decap}
use Rattle.nf_tunnel.specs.OuterHeaders.{outer_header}
use Rattle.nf_tunnel.specs.Tunnels.{header_at, has_ipv4_header, encapsulated, is_for, is_whole, holds_ipv4, arrives, leaves, decapsulated}
use Rattle.nf_tunnel.specs.Headers.{Enters}
use Rattle.nf_tunnel.proofs.Headers.{header_test}
use Rattle.nf_tunnel.proofs.Outer.{HasAddresses, HasOuter, length_outer}
use Rattle.nf_tunnel.proofs.Replacing.{length_front}
use Rattle.nf_tunnel.proofs.Entering.{behind_entry}

-- the frame without its outer header
abbrev pub without_outer : List ℕ → List ℕ
without_outer frame = take (header_at frame) frame ++ drop (header_at frame + header_len (packet frame)) frame

pub without_is : (tunnel : Decap) (frame : List ℕ) → leaves tunnel (packet frame) ≡ true → decapsulated tunnel frame ≡ without_outer frame
without_is tunnel frame test = cond-true (leaves tunnel (packet frame)) (without_outer frame) frame test

pub stays_in : (tunnel : Decap) (frame : List ℕ) → leaves tunnel (packet frame) ≡ false → decapsulated tunnel frame ≡ frame
stays_in tunnel frame test = cond-false (leaves tunnel (packet frame)) (without_outer frame) frame test

-- a frame that an exit changes leaves
pub went_out : (tunnel : Decap) (frame : List ℕ) → decapsulated tunnel frame ≢ frame → leaves tunnel (packet frame) ≡ true
went_out tunnel frame changed =
    ⊎_elim
    (λ (is : leaves tunnel (packet frame) ≡ true). is)
    (λ (is : leaves tunnel (packet frame) ≡ false). absurd (changed (stays_in tunnel frame is)))
    (cases_Bool (leaves tunnel (packet frame)))

-- the flags of an outer header say that it is no fragment
no_fragment : (n w : ℕ) → w ≡ (((n / 0x40) % 2) * 0x40) * 256 → w % 0x4000 ≡ 0
no_fragment n w is = omega arith

-- a packet with an outer header leaves at the exit that the header names
pub outer_leaves : (entry : Encap) (exit : Decap) (p q : List ℕ) → exit.exit ≡ entry.exit → Enters p → HasOuter entry p q → leaves exit q ≡ true
unfolding leaves
outer_leaves entry exit p q one e o =
    let begins = begins_ipv4 p e.header.there in
    let least = e.header.least in
    let place : segment_at q ≡ 22 = ap (λ (n : ℕ). n + 2) o.len in
    let first : get_or q 22 0 ≡ get_or p 2 0 = sym (get_or-drop 22 q 0 0) ∙ (ap (λ (xs : List ℕ). get_or xs 0 0) o.inner ∙ get_or-drop 2 p 0 0) in
    let room : 22 < length q = omega (arith, length-drop 22 q, length-drop 2 p, ap (λ (xs : List ℕ). length xs) o.inner, begins.room) in
    let version : (get_or q (segment_at q) 0 / 16) ≡ 4 = ap (λ (n : ℕ). get_or q n 0 / 16) place ∙ (ap (λ (n : ℕ). n / 16) first ∙ begins.version) in
    let sent : take 4 (drop 18 q) ≡ ipv4_octets exit.exit = o.destination ∙ sym (ap (λ (a : Ipv4Addr). ipv4_octets a) one) in
    and_from (has_ipv4_header q) (arrives exit q) (header_test q o.header)
    (and_from (header_byte q 9 == 4) (is_for exit q && (is_whole q && holds_ipv4 q)) (eq-eqb (header_byte q 9) 4 o.protocol)
    (and_from (is_for exit q) (is_whole q && holds_ipv4 q) ((bytes_decides (take 4 (drop 18 q)) (ipv4_octets exit.exit)).1 sent)
    (and_from (is_whole q) (holds_ipv4 q) (eq-eqb (header_word q 6 % 0x4000) 0 (no_fragment (header_byte p 6) (header_word q 6) o.fragment))
    (and_from (nat_lt (header_len q) (datagram_len q)) (nat_lt (segment_at q) (length q) && (get_or q (segment_at q) 0 / 16 == 4)) (lt-ltb (header_len q) (datagram_len q) (omega (arith, o.len, o.datagram, e.within, least)))
    (and_from (nat_lt (segment_at q) (length q)) (get_or q (segment_at q) 0 / 16 == 4) (lt-ltb (segment_at q) (length q) (omega (arith, place, room)))
    (eq-eqb (get_or q (segment_at q) 0 / 16) 4 version))))))

-- an exit takes off what an entry put on
pub undone : (entry : Encap) (exit : Decap) (frame : List ℕ) → HasAddresses entry → exit.exit ≡ entry.exit → encapsulated entry frame ≢ frame → decapsulated exit (encapsulated entry frame) ≡ frame
undone entry exit frame h one changed =
    let w = behind_entry entry frame h changed in
    let p = packet frame in
    let new = encapsulated entry frame in
    let room : 2 < length p = (begins_ipv4 p w.inner.header.there).room in
    let front = take (header_at frame) frame in
    let outer = outer_header entry p in
    let behind = drop (header_at frame) frame in
    let front_len = length_front frame room in
    let outer_len = length_outer entry p h in
    let both_len : length (front ++ outer) ≡ header_at frame + 20 = omega (arith, length-append front outer, front_len, outer_len) in
    let begin : header_at new ≡ header_at frame = ap (λ (n : ℕ). n + 2) w.place in
    let end : header_at new + header_len (packet new) ≡ header_at frame + 20 = omega (arith, begin, w.outer.len) in
    let before : take (header_at new) new ≡ front = cong2 (λ (n : ℕ) (xs : List ℕ). take n xs) begin w.whole ∙ take_at front (outer ++ behind) (header_at frame) front_len in
    let rest : drop (header_at new + header_len (packet new)) new ≡ behind =
    cong2 (λ (n : ℕ) (xs : List ℕ). drop n xs) end (w.whole ∙ sym (append_assoc front outer behind)) ∙ drop_at (front ++ outer) behind (header_at frame + 20) both_len in
    without_is exit new (outer_leaves entry exit p (packet new) one w.inner w.outer)
    ∙ (cong2 (λ (xs ys : List ℕ). xs ++ ys) before rest ∙ take-append-drop (header_at frame) frame)
