use Rattle.std.proofs.Common.{◌≡◌, ◌∙◌, get_or, ap, arith}
use Rattle.packet_fields.specs.Fields.{number_of}
use Rattle.packet_fields.specs.declared.field.Field.TheVariants.{LinkDst}
use Rattle.packet_version.specs.Parts.{as_map}
use Rattle.packet_version.proofs.DealtByField.{number_at}
use Rattle.packet_version.proofs.PutTogether.{way_more}
use Rattle.packet_version.proofs.rejoining.put_all_back.Goals as goal

pub loop-field-preserved : goal.loop-field-preserved
loop-field-preserved c =
    let f = get_or c.all_fields-field-items.result.now c.loop-field.field-index LinkDst in
    let at : number_of f ≡ c.loop-field.field-index = number_at c.all_fields-field-items.result.now c.loop-field.field-index c.loop-field.invariant.fields c.loop-field-test.true in
    record {
      fields = c.loop-field.invariant.fields;
      left = λ g below. c.put_field_back.ensures.others g (λ e. (let same : number_of g ≡ number_of f = ap number_of e in omega arith)) ∙ c.loop-field.invariant.left g (omega arith);
      len = c.put_field_back.ensures.len ∙ c.loop-field.invariant.len;
      done = way_more f c.loop-field.field-index c.args.touch (as_map c.loop-field.own) (as_map c.args.own.now) c.args.gathered.now c.loop-field.gathered c.put_field_back.new.gathered at (c.loop-field.invariant.left f (omega arith)) c.loop-field.invariant.done c.put_field_back.ensures.part;
    }
