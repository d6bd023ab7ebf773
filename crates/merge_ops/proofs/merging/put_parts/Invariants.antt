use Rattle.std.proofs.Common.{◌≡◌, ◌≤◌}
use Rattle.action_profile.specs.FieldSets.{all_fields}
use Rattle.packet_fields.specs.Fields.{number_of}
use Rattle.packet_fields.specs.declared.field.Field.{Field}
use Rattle.packet_fields.specs.declared.field.Field.TheVariants.{Tag}
use Rattle.packet_version.specs.Parts.{AreTags}
use Rattle.packet_version.specs.Splitting.{packet_parts}
use Rattle.merge_ops.specs.Taking.{SameIn}
use Rattle.merge_ops.proofs.Same.{on_way}
use Rattle.merge_ops.proofs.merging.put_parts.Given as goal

abbrev pub invariant-loop-field : goal.invariant-loop-field
invariant-loop-field l = record {
  fields : l.field-items ≡ all_fields;
  left : (f : Field) → l.field-index ≤ number_of f → SameIn f l.initial.arrivals l.arrivals;
  done : l.gathered ≡ on_way l.field-index l.initial.gathered l.initial.arrivals;
  tags : AreTags (packet_parts l.initial.gathered Tag) → AreTags (packet_parts l.gathered Tag);
}
