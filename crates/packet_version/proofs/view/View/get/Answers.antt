use Rattle.std.proofs.Common.{◌≡◌, true, List, ℕ, length, sym, subst}
use Rattle.std.specs.Prelude.{IfSome}
use Rattle.packet_fields.specs.Frames.{is_tag_list}
use Rattle.packet_fields.specs.Fields.{IsLengthOf}
use Rattle.packet_fields.specs.declared.field.Field.{Field}
use Rattle.packet_version.specs.Views.{seen_values}
use Rattle.packet_version.proofs.Forming.{read_has}
use Rattle.packet_version.proofs.view.View.get.Goals as goal

pub returns-clause-size : goal.returns-clause-size
returns-clause-size c = read_has (λ (b : List ℕ). IsLengthOf c.args.field (length b)) c.bytes.result _ c.bytes.ensures (c.view_is_formed.ensures.lengths c.args.field)

pub returns-clause-whole : goal.returns-clause-whole
returns-clause-whole c = λ is. read_has (λ (b : List ℕ). is_tag_list b ≡ true) c.bytes.result _ c.bytes.ensures
    (subst (λ (f : Field). IfSome (seen_values c.args.self.now f) (λ b. is_tag_list b ≡ true)) (sym is) c.view_is_formed.ensures.tags)
