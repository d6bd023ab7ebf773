use Rattle.std.proofs.Common.{◌∙◌, ◌++◌, ap, sym, take}
use Rattle.flow_export.specs.Layouts.{record_bytes, record_fields, spelled}
use Rattle.flow_export.proofs.Splitting.{one_record}
use Rattle.flow_export.proofs.packets.put_line.Goals as goal

pub returns-clause-written : goal.returns-clause-written
unfolding record_bytes
returns-clause-written c =
    c.put_fields.ensures.written
    ∙ ap (λ b. take c.args.at c.args.buffer.now ++ b) (ap spelled (c.fields.ensures ∙ ap record_fields c.record.ensures) ∙ sym (one_record c.args.span.now c.args.line.now c.if-line.false))
