use Rattle.packet_fields.proofs.Outlines.{start_inside}
use Rattle.packet_fields.proofs.outline.packet_in.Goals as goal

pub packet_from-requires-clause-inside : goal.packet_from-requires-clause-inside
packet_from-requires-clause-inside c = start_inside c.args.frame.now c.args.outline.now c.requires
