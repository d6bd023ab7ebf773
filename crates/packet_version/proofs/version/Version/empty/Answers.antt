use Rattle.packet_version.proofs.PartsOfBranch.{empty_is}
use Rattle.packet_version.proofs.version.Version.empty.Goals as goal

pub returns : goal.returns
returns c = empty_is c.args.touch c.in_ok-own_places.field-0.items c.args.fixed c.in_ok-own_places.ensures
