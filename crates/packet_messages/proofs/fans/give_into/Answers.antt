use Rattle.std.proofs.Common.{[]}
use Rattle.packet_messages.proofs.Sweeps.{has_next}
use Rattle.packet_messages.proofs.fans.give_into.Goals as goal

pub give_next-requires-clause-some : goal.give_next-requires-clause-some
give_next-requires-clause-some g c = has_next c.args.list.now c.args.place [] _ c.requires.inside c.requires.due
