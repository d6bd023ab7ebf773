use Rattle.std.proofs.Common.{◌≡◌, ◌≤◌, length}
use Rattle.action_profile.specs.FieldSets.{all_fields}
use Rattle.packet_fields.specs.Fields.{number_of}
use Rattle.packet_fields.specs.declared.field.Field.{Field}
use Rattle.packet_version.specs.Parts.{as_map}
use Rattle.packet_version.specs.Splitting.{packet_parts}
use Rattle.packet_version.specs.Rejoining.{rejoined_by}
use Rattle.packet_version.proofs.PutTogether.{on_way}
use Rattle.packet_version.proofs.rejoining.put_all_back.Given as goal

abbrev pub invariant-loop-field : goal.invariant-loop-field
invariant-loop-field l = record {
  fields : l.field-items ≡ all_fields;
  left : (f : Field) → l.field-index ≤ number_of f → as_map l.own f ≡ as_map l.initial.own f;
  len : length l.own ≡ length l.initial.own;
  done : l.gathered ≡ on_way l.field-index l.initial.gathered (rejoined_by l.touch (as_map l.initial.own) (packet_parts l.initial.gathered));
}
