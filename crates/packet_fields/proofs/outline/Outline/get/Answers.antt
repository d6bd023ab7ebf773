use Rattle.std.proofs.Common.{◌∙◌, subst, sym}
use Rattle.packet_fields.specs.Fields.{IsLengthOf}
use Rattle.packet_fields.proofs.Spans.{value-len}
use Rattle.packet_fields.proofs.outline.Outline.get.Goals as goal

pub returns-clause-length : goal.returns-clause-length
returns-clause-length c =
    subst (IsLengthOf c.args.field) (sym c.part.ensures.len) (value-len c.args.field c.args.frame.now c.in_ok-span.span (sym c.place.ensures.place ∙ c.in_ok-span.was))
