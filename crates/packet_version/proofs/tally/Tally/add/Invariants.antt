use Rattle.std.proofs.Common.{◌≡◌}
use Rattle.packet_fields.specs.Writing.{all_fields}
use Rattle.packet_version.specs.Tallies.{count_of}
use Rattle.packet_version.proofs.DealtByField.{RaisesBefore}
use Rattle.packet_version.proofs.tally.Tally.add.Given as goal

abbrev pub invariant-loop-field : goal.invariant-loop-field
invariant-loop-field l = record {
  fields : l.fields ≡ all_fields;
  counted : RaisesBefore (count_of l.other) l.field-index l.initial.self l.self;
}
