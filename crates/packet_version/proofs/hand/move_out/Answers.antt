use Rattle.std.proofs.Common.{◌∙◌, sym}
use Rattle.packet_version.proofs.Originals.{absent_copied}
use Rattle.packet_version.proofs.hand.move_out.Goals as goal

pub returns-in-None-clause-given : goal.returns-in-None-clause-given
returns-in-None-clause-given c = absent_copied c.args.field _ c.args.versions.now (sym c.in_ok-part.ensures.part ∙ c.in-None.is)
