use Rattle.std.proofs.Common.{◌≡◌}
use Rattle.packet_version.specs.Places.{unwritten_place}
use Rattle.packet_version.proofs.Mapping.{changed_first}
use Rattle.packet_version.proofs.places.forget_all.Given as goal

abbrev pub invariant-loop-place : goal.invariant-loop-place
invariant-loop-place l = l.places ≡ changed_first unwritten_place l.place-index l.initial.places
