use Rattle.std.proofs.Common.{◌∙◌, ℕ, List, true, false, subst, sym, ap}
use Rattle.std.specs.Prelude.{None}
use Rattle.std.proofs.lemmas.Bool.{cond-true, cond-false}
use Rattle.packet_fields.specs.Frames.{packet_at, packet}
use Rattle.packet_fields.specs.Packets.{header_len}
use Rattle.packet_fields.proofs.Overwriting.{cong2}
use Rattle.nf_tunnel.specs.Tunnels.{has_ipv4_header, arrives, leaves}
use Rattle.nf_tunnel.specs.Headers.{HasHeader}
use Rattle.nf_tunnel.proofs.Headers.{no_some, same_test, span_at, leaving_by, not_leaving}
use Rattle.nf_tunnel.proofs.decap.Decap.outer_span.Goals as goal

pub returns-in_err-start-clause-span : goal.returns-in_err-start-clause-span
returns-in_err-start-clause-span c =
    let frame = c.args.frame.now in
    let p = packet frame in
    let none = no_some (has_ipv4_header p) (packet_at frame) (sym c.ipv4_at.ensures.place ∙ c.in_err-start.was) in
    c.from_residual.ensures ∙ sym (cond-false (leaves c.args.self.now p) (span_at (packet_at frame) (header_len p)) None (not_leaving c.args.self.now p none))

pub returns-then-arrives-clause-span : goal.returns-then-arrives-clause-span
returns-then-arrives-clause-span c =
    let frame = c.args.frame.now in
    let p = packet frame in
    let q = c.packet_from-packet.result.now in
    let here = same_test (arrives c.args.self.now) q p c.arrives.result true c.packet_from-packet.ensures c.arrives.ensures c.if-arrives.true in
    let len = c.header_len.ensures.len ∙ ap (λ (xs : List ℕ). header_len xs) c.packet_from-packet.ensures in
    cong2 (λ (n k : ℕ). span_at n k) c.in_ok-start.ensures.begins len
    ∙ sym (cond-true (leaves c.args.self.now p) (span_at (packet_at frame) (header_len p)) None (leaving_by c.args.self.now p c.in_ok-start.ensures.header ∙ here))

pub returns-else-arrives-clause-span : goal.returns-else-arrives-clause-span
returns-else-arrives-clause-span c =
    let frame = c.args.frame.now in
    let p = packet frame in
    let here = same_test (arrives c.args.self.now) c.packet_from-packet.result.now p c.arrives.result false c.packet_from-packet.ensures c.arrives.ensures c.if-arrives.false in
    sym (cond-false (leaves c.args.self.now p) (span_at (packet_at frame) (header_len p)) None (leaving_by c.args.self.now p c.in_ok-start.ensures.header ∙ here))

pub arrives-requires : goal.arrives-requires
arrives-requires c = subst (λ (xs : List ℕ). HasHeader xs) (sym c.packet_from-packet.ensures) c.in_ok-start.ensures.header
