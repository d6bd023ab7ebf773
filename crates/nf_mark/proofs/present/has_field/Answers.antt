use Rattle.std.proofs.Common.{◌∙◌, sym, length}
use Rattle.packet_fields.specs.Fields.{IsLengthOf}
use Rattle.packet_version.specs.Views.{seen_parts}
use Rattle.nf_mark.proofs.FieldsThere.{same_there, is_there}
use Rattle.nf_mark.proofs.present.has_field.Goals as goal

pub returns-clause-there : goal.returns-clause-there
returns-clause-there c = c.has.ensures ∙ same_there (seen_parts c.args.view.now c.args.field)

pub returns-clause-size : goal.returns-clause-size
returns-clause-size c = λ has. is_there (λ bytes. IsLengthOf c.args.field (length bytes)) (seen_parts c.args.view.now c.args.field) (sym c.has.ensures ∙ has) (c.view_is_formed.ensures.lengths c.args.field)
