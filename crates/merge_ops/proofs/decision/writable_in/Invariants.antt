use Rattle.std.proofs.Common.{◌≡◌, false, take}
use Rattle.std.specs.List.{list_any}
use Rattle.packet_fields.specs.declared.field.Field.{Field}
use Rattle.action_profile.specs.FieldSets.{has}
use Rattle.merge_ops.specs.Merging.{greatest_writer}
use Rattle.merge_ops.specs.Taking.{writes_in}
use Rattle.merge_ops.proofs.decision.writable_in.Given as goal

abbrev pub invariant-loop-arrival : goal.invariant-loop-arrival
invariant-loop-arrival l = record {
  fields : (f : Field) → has l.fields f ≡ list_any (writes_in f) (take l.arrival-index l.arrivals);
  unwritten : (f : Field) → has l.fields f ≡ false → greatest_writer (take l.arrival-index l.arrivals) f ≡ 0;
}
