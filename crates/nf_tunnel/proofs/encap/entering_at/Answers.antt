use Rattle.std.proofs.Common.{◌∙◌, ℕ, List, true, false, subst, sym, ap}
use Rattle.std.specs.Prelude.{Some, None}
use Rattle.std.proofs.lemmas.Bool.{cond-true, cond-false}
use Rattle.packet_fields.specs.Frames.{packet_at, packet}
use Rattle.nf_tunnel.specs.Tunnels.{has_ipv4_header, fits, enters}
use Rattle.nf_tunnel.specs.Headers.{HasHeader}
use Rattle.nf_tunnel.proofs.Headers.{no_some, same_test, entering_by, not_entering}
use Rattle.nf_tunnel.proofs.encap.entering_at.Goals as goal

pub returns-in_err-start-clause-place : goal.returns-in_err-start-clause-place
returns-in_err-start-clause-place c =
    let p = packet c.args.frame.now in
    let none = no_some (has_ipv4_header p) (packet_at c.args.frame.now) (sym c.ipv4_at.ensures.place ∙ c.in_err-start.was) in
    c.from_residual.ensures ∙ sym (cond-false (enters p) (Some (packet_at c.args.frame.now)) None (not_entering p none))

pub returns-then-fits-clause-place : goal.returns-then-fits-clause-place
returns-then-fits-clause-place c =
    let p = packet c.args.frame.now in
    let here = same_test fits c.packet_from.result.now p c.fits.result true c.packet_from.ensures c.fits.ensures c.if-fits.true in
    ap (λ (n : ℕ). Some n) c.in_ok-start.ensures.begins ∙ sym (cond-true (enters p) (Some (packet_at c.args.frame.now)) None (entering_by p c.in_ok-start.ensures.header ∙ here))

pub returns-else-fits-clause-place : goal.returns-else-fits-clause-place
returns-else-fits-clause-place c =
    let p = packet c.args.frame.now in
    let here = same_test fits c.packet_from.result.now p c.fits.result false c.packet_from.ensures c.fits.ensures c.if-fits.false in
    sym (cond-false (enters p) (Some (packet_at c.args.frame.now)) None (entering_by p c.in_ok-start.ensures.header ∙ here))

pub fits-requires : goal.fits-requires
fits-requires c = subst (λ (xs : List ℕ). HasHeader xs) (sym c.packet_from.ensures) c.in_ok-start.ensures.header
