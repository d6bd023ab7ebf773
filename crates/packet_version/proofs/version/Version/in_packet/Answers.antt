use Rattle.std.specs.Prelude.{None}
use Rattle.packet_version.proofs.PartsOfBranch.{packet_had}
use Rattle.packet_version.proofs.version.Version.in_packet.Goals as goal

pub invariant_of-result : goal.invariant_of-result
invariant_of-result c = packet_had c.args.touch c.args.held _ None c.requires.unwritten c.requires.formed c.requires.few
