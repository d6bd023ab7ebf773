use Rattle.std.proofs.Common.{◌≡◌, ◌∙◌, length, true, sym}
use Rattle.std.specs.Prelude.{Option, Some, None, is_some, option_map, IfSome, IsSomeAnd}
use Rattle.packet_fields.specs.declared.field.Field.TheVariants.{Tos}
use Rattle.packet_version.specs.Parts.{PlainPart}
use Rattle.packet_version.specs.Views.{seen_parts}
use Rattle.functions_tests.proofs.painter.PainterFunction.step.Goals as goal

byte_fits : (part : Option PlainPart) → is_some part ≡ true → IfSome (option_map (λ p. p.bytes) part) (λ bytes. length bytes ≡ 1) → IsSomeAnd (option_map (λ p. p.bytes) part) (λ old. 1 ≡ length old)
byte_fits None there formed = absurd cc
byte_fits (Some part) there formed = sym formed

pub set-requires-clause-fits : goal.set-requires-clause-fits
set-requires-clause-fits c = byte_fits (seen_parts c.args.view.now Tos) (sym c.has.ensures ∙ c.if-has.true) (c.view_is_formed.ensures.lengths Tos)
