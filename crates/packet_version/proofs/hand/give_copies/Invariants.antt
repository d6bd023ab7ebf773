use Rattle.std.proofs.Common.{◌≡◌, take}
use Rattle.packet_version.specs.Handing.{copied_to, writers_in}
use Rattle.packet_version.specs.Splitting.{fresh}
use Rattle.packet_version.specs.Raising.{RaisesBy}
use Rattle.packet_version.proofs.Mapping.{changed_first}
use Rattle.packet_version.proofs.hand.give_copies.Given as goal

abbrev pub invariant-loop-version : goal.invariant-loop-version
invariant-loop-version l = record {
  given : l.versions ≡ changed_first (copied_to l.field (fresh l.spare l.bytes)) l.version-index l.initial.versions;
  counted : RaisesBy (writers_in l.field (take l.version-index l.initial.versions)) l.field l.initial.tally l.tally;
}
