use Rattle.std.proofs.Common.{rules}
use Rattle.nf_tunnel.proofs.Entering.{right_behind_entry}
use Rattle.nf_tunnel.proofs.laws.the_outer_checksum_is_right.Goals as goal

pub returns : goal.returns
returns c = λ frame changed. right_behind_entry c.a_checksum_makes_bytes_right.ensures c.args.entry frame (record { entry = search rules; exit = search rules }) changed
