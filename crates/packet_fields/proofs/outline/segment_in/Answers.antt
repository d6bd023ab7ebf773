use Rattle.std.proofs.Common.{◌∙◌, sym}
use Rattle.packet_fields.proofs.Outlines.{no_segment}
use Rattle.packet_fields.proofs.outline.segment_in.Goals as goal

pub returns-in-None : goal.returns-in-None
returns-in-None c = no_segment c.args.packet.now (sym c.in-None.is ∙ c.requires)
