use Rattle.packet_messages.proofs.Taking.{each_whole}
use Rattle.packet_messages.proofs.board_inlets.inlets_of.Goals as goal

pub returns : goal.returns
returns g c = each_whole c.args.seat.due
