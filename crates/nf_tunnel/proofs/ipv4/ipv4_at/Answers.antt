use Rattle.std.proofs.Common.{◌≡◌, ℕ, List, true, subst, sym, arith}
use Rattle.packet_fields.specs.Packets.{is_ipv4}
use Rattle.nf_tunnel.specs.Headers.{HasHeader}
use Rattle.nf_tunnel.proofs.Headers.{header_from}
use Rattle.nf_tunnel.proofs.ipv4.ipv4_at.Goals as goal

pub returns-then-header_len-packet-clause-header : goal.returns-then-header_len-packet-clause-header
returns-then-header_len-packet-clause-header c =
    let q = c.packet_from-packet.result.now in
    let there = subst (λ (xs : List ℕ). is_ipv4 xs ≡ true) (sym c.packet_from-packet.ensures) c.in_ok-start.ensures.there in
    subst (λ (xs : List ℕ). HasHeader xs) c.packet_from-packet.ensures (header_from q there (omega (arith, c.header_len.ensures.len, c.if-header_len-packet.true)))
