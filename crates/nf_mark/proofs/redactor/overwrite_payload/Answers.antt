use Rattle.packet_fields.specs.declared.field.Field.TheVariants.{Payload}
use Rattle.nf_mark.proofs.Redacting.{left_behind}
use Rattle.nf_mark.proofs.redactor.overwrite_payload.Goals as goal

pub returns : goal.returns
returns c =
    left_behind c.args.patterns.now c.args.view.now c.edit-payload.result.now c.redact.new.payload c.edit-payload.ensures.bytes c.redact.ensures
    (c.written_is_one_value.ensures.edited c.args.view.now Payload c.redact.new.payload)
