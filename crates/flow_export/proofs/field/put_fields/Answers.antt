-- There is room for the next of the fields, since there is for all of them.
use Rattle.std.proofs.Common.{arith}
use Rattle.std.proofs.lemmas.List.Folds.{length-flat_map-take}
use Rattle.flow_export.specs.Layouts.{field_bytes}
use Rattle.flow_export.specs.declared.field.Field.TheVariants.{Byte}
use Rattle.flow_export.proofs.field.put_fields.Goals as goal

pub put_field-end-requires : goal.put_field-end-requires
put_field-end-requires c =
    let next = length-flat_map-take field_bytes c.args.fields.now c.fields.field-index (Byte 0) c.fields-test.true in
    record { room = omega (arith, next, c.fields.invariant.0, c.requires.room, c.fields.auto.bytes) }
