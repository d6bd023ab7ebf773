use Rattle.std.proofs.Common.{◌≡◌, ◌∙◌, List, ℕ, ap, length, arith}
use Rattle.std.proofs.lemmas.List.{with_items_is}
use Rattle.packet_fields.specs.Fields.{value}
use Rattle.packet_version.proofs.rest.Rest.put_value.Goals as goal

pub returns-clause-others : goal.returns-clause-others
returns-clause-others c = λ g apart.
    let bytes = c.self.inside.bytes in
    let same : length c.put.new.frame ≡ bytes.len = omega (arith, c.put.auto.frame, c.deref_mut.ensures.len, bytes.ok.0) in
    ap (λ (xs : List ℕ). value g xs) (with_items_is bytes c.put.new.frame same)
    ∙ (c.put.ensures.others g apart ∙ ap (λ (xs : List ℕ). value g xs) (c.deref_mut.ensures.value ∙ c.self.view_is))
