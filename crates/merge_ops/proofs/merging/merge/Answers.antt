use Rattle.std.proofs.Common.{◌≡◌, ◌∙◌, List, map, sym, ap, subst}
use Rattle.action_profile.specs.FieldSets.{all_fields}
use Rattle.packet_fields.specs.declared.field.Field.TheVariants.{Tag}
use Rattle.packet_version.specs.Parts.{AreTags}
use Rattle.packet_version.specs.Splitting.{PlainApart, packet_parts}
use Rattle.merge_ops.specs.Merging.{op_of, decision_of}
use Rattle.merge_ops.specs.Taking.{merged_parts, with_parts}
use Rattle.merge_ops.specs.declared.arrival.Arrival.{Arrival}
use Rattle.merge_ops.specs.declared.decision.Decision.TheVariants.{Take}
use Rattle.merge_ops.proofs.Latest.{goes_on}
use Rattle.merge_ops.proofs.Whole.{kept_tags, whole_behind}
use Rattle.merge_ops.proofs.merging.merge.Goals as goal

pub put_parts-requires-clause-ops : goal.put_parts-requires-clause-ops
put_parts-requires-clause-ops g c =
    let on : Take c.in-Take.ops ≡ decision_of c.args.arrivals.now.items = c.in-Take.ensures ∙ ap decision_of c.deref.ensures.value in
    (goes_on c.args.arrivals.now.items c.in-Take.ops on).by ∙ ap (λ (xs : List Arrival). map (op_of xs) all_fields) (sym c.deref_mut.ensures.value)

pub finish-requires : goal.finish-requires
finish-requires g c =
    let on : Take c.in-Take.ops ≡ decision_of c.args.arrivals.now.items = c.in-Take.ensures ∙ ap decision_of c.deref.ensures.value in
    let made : c.put_parts.new.gathered ≡ with_parts c.args.base (merged_parts c.args.base c.args.arrivals.now.items) =
    c.put_parts.ensures.parts
    ∙ (ap (λ (w : PlainApart). with_parts w (merged_parts w c.deref_mut.result.now)) c.gather-gathered.ensures
    ∙ ap (λ (xs : List Arrival). with_parts c.args.base (merged_parts c.args.base xs)) c.deref_mut.ensures.value) in
    let kept : AreTags (packet_parts c.gather-gathered.result Tag) = subst (λ (w : PlainApart). AreTags (packet_parts w Tag)) (sym c.gather-gathered.ensures) (kept_tags c.requires.arrivals.whole c.requires.arrivals.touches c.args.base c.args.arrivals.now.items c.requires.arrivals.from) in
    whole_behind c.requires.arrivals.whole c.requires.arrivals.touches c.args.base c.put_parts.new.gathered c.args.arrivals.now.items c.in-Take.ops c.requires.arrivals.from on made (c.put_parts.ensures.tags kept)
