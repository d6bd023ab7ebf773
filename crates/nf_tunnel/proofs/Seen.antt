-- What the functions after the entry of a tunnel see.
use Rattle.std.proofs.Common.{◌≡◌, ◌≢◌, ◌<◌, ◌+◌, ◌∙◌, ℕ, List, [], ◌∷◌, length, take, drop, get_or, true, ◌&&◌, sym, ap, refl, arith}
use Rattle.std.specs.Prelude.{Option, Some, None, option_map, nat_le, nat_lt}
use Rattle.std.specs.Net.Addr.{ipv4_octets}
use Rattle.std.proofs.lemmas.Bool.{cond-true, and_from, le-leb, lt-ltb}
use Rattle.std.proofs.lemmas.List.{drop-drop, drop_more}
use Rattle.packet_fields.specs.Frames.{packet_at, packet}
use Rattle.packet_fields.specs.Packets.{header_word, protocol, total_len}
use Rattle.packet_fields.specs.Fields.{packet_span, in_frame, bytes_at, value}
use Rattle.packet_fields.specs.declared.field.Field.TheVariants.{Tos, Ttl, SrcIp, DstIp}
use Rattle.packet_fields.specs.declared.plan.Span.{Span}
use Rattle.packet_fields.proofs.Versions.{is_ipv4-alone}
use Rattle.nf_tunnel.specs.declared.encap.Encap.{Encap}
use Rattle.nf_tunnel.specs.Tunnels.{encapsulated}
use Rattle.nf_tunnel.specs.Headers.{HasHeader}
use Rattle.nf_tunnel.proofs.Outer.{HasAddresses}
use Rattle.nf_tunnel.proofs.Entering.{behind_entry}

-- the bytes of a field that lies in the packet
in_packet : (frame : List ℕ) (o : Option Span) (at len : ℕ) → o ≡ Some (record { at = at; len = len }) → option_map (bytes_at frame) (in_frame frame o) ≡ Some (take len (drop at (packet frame)))
in_packet frame o at len is =
    let place : at + packet_at frame ≡ packet_at frame + at = omega arith in
    ap (λ (s : Option Span). option_map (bytes_at frame) (in_frame frame s)) is
    ∙ ap (λ (xs : List ℕ). Some (take len xs)) (ap (λ (n : ℕ). drop n frame) place ∙ sym (drop-drop at (packet_at frame) frame))

one_byte : (xs : List ℕ) (at : ℕ) → at < length xs → take 1 (drop at xs) ≡ get_or xs at 0 ∷ []
one_byte xs at inside = ap (λ (ys : List ℕ). take 1 ys) (drop_more xs at 0 inside)

-- where the fields of a captured IPv4 header lie
source_span : (q : List ℕ) → HasHeader q → packet_span SrcIp q ≡ Some (record { at = 14; len = 4 })
source_span q h = let four = h.there in let six = is_ipv4-alone q h.there in rw (four, six) (cond-true (nat_le 18 (length q)) (Some (record { at = 14; len = 4 })) None (le-leb 18 (length q) (omega (arith, h.room))))

destination_span : (q : List ℕ) → HasHeader q → packet_span DstIp q ≡ Some (record { at = 18; len = 4 })
destination_span q h = let four = h.there in let six = is_ipv4-alone q h.there in rw (four, six) (cond-true (nat_le 22 (length q)) (Some (record { at = 18; len = 4 })) None (le-leb 22 (length q) (omega (arith, h.room))))

ttl_span : (q : List ℕ) → HasHeader q → packet_span Ttl q ≡ Some (record { at = 10; len = 1 })
ttl_span q h = let four = h.there in let six = is_ipv4-alone q h.there in rw (four, six) (cond-true (nat_le 11 (length q)) (Some (record { at = 10; len = 1 })) None (le-leb 11 (length q) (omega (arith, h.room))))

tos_span : (q : List ℕ) → HasHeader q → packet_span Tos q ≡ Some (record { at = 3; len = 1 })
tos_span q h = let four = h.there in rw four (cond-true (nat_le 4 (length q)) (Some (record { at = 3; len = 1 })) None (le-leb 4 (length q) (omega (arith, h.room))))

protocol_is : (q : List ℕ) → HasHeader q → protocol q ≡ Some (get_or q 11 0)
protocol_is q h = let four = h.there in let six = is_ipv4-alone q h.there in rw (four, six) (cond-true (nat_lt 11 (length q)) (Some (get_or q 11 0)) None (lt-ltb 11 (length q) (omega (arith, h.room))))

total_len_is : (q : List ℕ) → HasHeader q → total_len q ≡ Some (header_word q 2)
total_len_is q h =
    let four = h.there in
    let six = is_ipv4-alone q h.there in
    rw (four, six) (cond-true (nat_le 6 (length q) && true) (Some (header_word q 2)) None (and_from (nat_le 6 (length q)) true (le-leb 6 (length q) (omega (arith, h.room))) refl))

module _ (tunnel : Encap) (frame : List ℕ) (h : HasAddresses tunnel) (changed : encapsulated tunnel frame ≢ frame) where
  pub src_ip_seen : value SrcIp (encapsulated tunnel frame) ≡ Some (ipv4_octets tunnel.entry)
  src_ip_seen =
      let new = encapsulated tunnel frame in
      let o = (behind_entry tunnel frame h changed).outer in
      in_packet new (packet_span SrcIp (packet new)) 14 4 (source_span (packet new) o.header) ∙ ap (λ (xs : List ℕ). Some xs) o.source

  pub dst_ip_seen : value DstIp (encapsulated tunnel frame) ≡ Some (ipv4_octets tunnel.exit)
  dst_ip_seen =
      let new = encapsulated tunnel frame in
      let o = (behind_entry tunnel frame h changed).outer in
      in_packet new (packet_span DstIp (packet new)) 18 4 (destination_span (packet new) o.header) ∙ ap (λ (xs : List ℕ). Some xs) o.destination

  pub ttl_seen : value Ttl (encapsulated tunnel frame) ≡ Some (tunnel.ttl ∷ [])
  ttl_seen =
      let new = encapsulated tunnel frame in
      let o = (behind_entry tunnel frame h changed).outer in
      in_packet new (packet_span Ttl (packet new)) 10 1 (ttl_span (packet new) o.header)
      ∙ (ap (λ (xs : List ℕ). Some xs) (one_byte (packet new) 10 (omega (arith, o.header.room))) ∙ ap (λ (n : ℕ). Some (n ∷ [])) o.ttl)

  pub tos_seen : value Tos (encapsulated tunnel frame) ≡ value Tos frame
  tos_seen =
      let new = encapsulated tunnel frame in
      let w = behind_entry tunnel frame h changed in
      let inside = in_packet frame (packet_span Tos (packet frame)) 3 1 (tos_span (packet frame) w.inner.header) ∙ ap (λ (xs : List ℕ). Some xs) (one_byte (packet frame) 3 (omega (arith, w.inner.header.room))) in
      in_packet new (packet_span Tos (packet new)) 3 1 (tos_span (packet new) w.outer.header)
      ∙ (ap (λ (xs : List ℕ). Some xs) (one_byte (packet new) 3 (omega (arith, w.outer.header.room))) ∙ (ap (λ (n : ℕ). Some (n ∷ [])) w.outer.tos ∙ sym inside))

  pub protocol_seen : protocol (packet (encapsulated tunnel frame)) ≡ Some 4
  protocol_seen =
      let o = (behind_entry tunnel frame h changed).outer in
      protocol_is (packet (encapsulated tunnel frame)) o.header ∙ ap (λ (n : ℕ). Some n) o.protocol

  pub total_len_seen : total_len (packet (encapsulated tunnel frame)) ≡ option_map (λ n. n + 20) (total_len (packet frame))
  total_len_seen =
      let w = behind_entry tunnel frame h changed in
      let q = packet (encapsulated tunnel frame) in
      let longer : header_word q 2 ≡ header_word (packet frame) 2 + 20 = sym w.outer.header.datagram ∙ (w.outer.datagram ∙ ap (λ (n : ℕ). n + 20) w.inner.header.datagram) in
      total_len_is q w.outer.header ∙ (ap (λ (n : ℕ). Some n) longer ∙ sym (ap (λ (o : Option ℕ). option_map (λ n. n + 20) o) (total_len_is (packet frame) w.inner.header)))
