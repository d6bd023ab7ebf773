use Rattle.std.proofs.Common.{ℕ, List, subst, sym}
use Rattle.packet_fields.specs.Frames.{packet}
use Rattle.nf_tunnel.specs.Headers.{Enters}
use Rattle.nf_tunnel.proofs.Headers.{entering}
use Rattle.nf_tunnel.proofs.encap.Encap.around.Goals as goal

pub outer_header-outer-requires : goal.outer_header-outer-requires
outer_header-outer-requires c = subst (λ (xs : List ℕ). Enters xs) (sym c.packet_from.ensures) (entering (packet c.args.frame.now) c.requires.enters)
