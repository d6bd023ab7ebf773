use Rattle.std.proofs.Common.{◌*◌, ◌∙◌, ℕ, ap, sym, arith}
use Rattle.packet_fields.proofs.Versions.{begins_ipv4, header_len-ipv4}
use Rattle.nf_tunnel.proofs.ipv4.header_len.Goals as goal

pub bounds-packet-2 : goal.bounds-packet-2
bounds-packet-2 c = (begins_ipv4 c.args.packet.now c.requires).room

pub returns-clause-len : goal.returns-clause-len
returns-clause-len c = ap (λ (n : ℕ). 4 * n) c.from.ensures ∙ sym (header_len-ipv4 c.args.packet.now c.requires).0

pub returns-clause-least : goal.returns-clause-least
returns-clause-least c = let words = (begins_ipv4 c.args.packet.now c.requires).words in omega arith
