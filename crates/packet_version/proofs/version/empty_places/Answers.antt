use Rattle.std.proofs.Common.{◌∙◌, ◌++◌, ◌∷◌, [], List, ap, sym, arith}
use Rattle.std.specs.Prelude.{Option, None}
use Rattle.packet_version.specs.Parts.{PlainPart}
use Rattle.packet_version.proofs.Maps.{mapped_more, mapped_over}
use Rattle.packet_version.proofs.version.empty_places.Goals as goal

pub loop-field-preserved : goal.loop-field-preserved
loop-field-preserved c = (
  c.loop-field.invariant.0,
  c.in_ok-push.ensures.items ∙ (ap (λ (xs : List (Option PlainPart)). xs ++ None ∷ []) c.loop-field.invariant.1 ∙ sym (mapped_more (λ f. None) c.all_fields-fields.result.now c.loop-field._field-index c.loop-field-test.true)),
)

pub returns : goal.returns
returns c = mapped_over (λ f. None) c.all_fields-fields.result.now c.loop-field._field-index c.loop-field.own.items c.loop-field.invariant.0 (omega arith) c.loop-field.invariant.1
