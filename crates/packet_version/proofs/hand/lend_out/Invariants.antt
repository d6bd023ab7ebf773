use Rattle.std.proofs.Common.{◌≡◌}
use Rattle.packet_version.specs.Parts.{as_map}
use Rattle.packet_version.specs.Handing.{lent_to}
use Rattle.packet_version.proofs.Mapping.{changed_first}
use Rattle.packet_version.proofs.hand.lend_out.Given as goal

abbrev pub invariant-loop-version : goal.invariant-loop-version
invariant-loop-version l = l.versions ≡ changed_first (lent_to (as_map l.owner.parts)) l.version-index l.initial.versions
