use Rattle.std.proofs.Common.{◌≡◌, drop}
use Rattle.packet_fields.specs.Writing.{all_fields, written}
use Rattle.packet_version.specs.Parts.{values_of}
use Rattle.packet_version.specs.Places.{parts_beside}
use Rattle.packet_version.proofs.Joining.{IsJoining}
use Rattle.packet_version.proofs.contents.put_all.Given as goal

abbrev pub invariant-loop-field : goal.invariant-loop-field
invariant-loop-field l = (l.fields ≡ all_fields) × IsJoining (values_of (parts_beside l.places)) (drop l.field-index l.fields) l.rest (written (values_of (parts_beside l.places)) l.initial.rest)
