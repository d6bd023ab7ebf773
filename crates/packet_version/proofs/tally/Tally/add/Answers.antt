use Rattle.std.proofs.Common.{◌≡◌, List, get_or, length, ap, arith}
use Rattle.packet_fields.specs.declared.field.Field.{Field}
use Rattle.packet_fields.specs.declared.field.Field.TheVariants.{LinkDst}
use Rattle.packet_version.specs.Tallies.{count_of}
use Rattle.packet_version.proofs.DealtByField.{number_at, counted_begin, counted_next, counted_over}
use Rattle.packet_version.proofs.tally.Tally.add.Goals as goal

pub loop-field-init : goal.loop-field-init
loop-field-init c = record { fields = c.all_fields-fields.ensures; counted = counted_begin (count_of c.args.other.now) c.args.self.now }

pub loop-field-preserved : goal.loop-field-preserved
loop-field-preserved c = record {
  fields = c.loop-field.invariant.fields;
  counted = counted_next (count_of c.args.other.now) (get_or c.all_fields-fields.result.now c.loop-field.field-index LinkDst) c.loop-field.field-index c.of.result c.args.self.now c.loop-field.self c.raise.new.self (number_at c.all_fields-fields.result.now c.loop-field.field-index c.loop-field.invariant.fields c.loop-field-test.true) c.of.ensures c.loop-field.invariant.counted c.raise.ensures;
}

pub returns : goal.returns
returns c =
    let len : length c.all_fields-fields.result.now ≡ 10 = ap (λ (fs : List Field). length fs) c.loop-field.invariant.fields in
    counted_over (count_of c.args.other.now) c.loop-field.field-index c.args.self.now c.loop-field.self (omega (arith, c.loop-field.auto.field-index-end)) c.loop-field.invariant.counted
