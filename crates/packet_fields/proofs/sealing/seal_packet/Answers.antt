use Rattle.packet_fields.proofs.SamePlaces.{other_version, stays}
use Rattle.packet_fields.proofs.sealing.seal_packet.Goals as goal

pub returns-in-None : goal.returns-in-None
returns-in-None c = stays c.args.old.now c.args.new.now (other_version c.args.old.now c.args.new.now c.in-None.ensures)
