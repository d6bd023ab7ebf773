use Rattle.std.proofs.Common.{◌≡◌, map, take}
use Rattle.std.specs.Prelude.{None}
use Rattle.packet_fields.specs.Writing.{all_fields}
use Rattle.packet_version.proofs.version.empty_places.Given as goal

abbrev pub invariant-loop-field : goal.invariant-loop-field
invariant-loop-field l = (l.fields ≡ all_fields) × (l.own.items ≡ map (λ f. None) (take l._field-index l.fields))
