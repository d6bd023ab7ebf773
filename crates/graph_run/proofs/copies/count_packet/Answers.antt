use Rattle.std.proofs.Common.{◌∙◌, ◌-◌, ◌^◌, List, ap, get_or}
use Rattle.std.specs.Prelude.{min, is_some, if◌then◌else◌}
use Rattle.packet_fields.specs.Fields.{value}
use Rattle.packet_fields.specs.declared.field.Field.{Field}
use Rattle.packet_fields.specs.declared.field.Field.TheVariants.{LinkDst}
use Rattle.graph_compile.specs.declared.graph.Stage.{Stage}
use Rattle.packet_version.proofs.DealtByField.{number_at, counted_next}
use Rattle.graph_run.specs.Counting.{copies_in}
use Rattle.graph_run.proofs.Counted.{most_of}
use Rattle.graph_run.proofs.copies.count_packet.Goals as goal

pub loop-field-preserved : goal.loop-field-preserved
loop-field-preserved c =
    let f : Field = get_or c.all_fields-field-items.result.now c.loop-field.field-index LinkDst in record {
      fields = c.loop-field.invariant.fields;
      counted = counted_next (most_of c.args.stages.now c.args.frame.now c.args.fate.now) f c.loop-field.field-index c.copies_where_present.result c.args.tally.now c.loop-field.tally c.raise.new.self (number_at c.all_fields-field-items.result.now c.loop-field.field-index c.loop-field.invariant.fields c.loop-field-test.true)
          (c.copies_where_present.ensures ∙ ap (λ (stages : List Stage). min (if is_some (value f c.args.frame.now) then copies_in stages f else 0) (2 ^ 64 - 1)) c.reached-stages.ensures)
          c.loop-field.invariant.counted c.raise.ensures;
    }
