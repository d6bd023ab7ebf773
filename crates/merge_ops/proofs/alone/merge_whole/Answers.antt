use Rattle.std.proofs.Common.{◌∙◌, [], ◌∷◌, map, sym, subst, refl}
use Rattle.std.specs.Prelude.{Option, IfSome}
use Rattle.action_profile.specs.FieldSets.{all_fields}
use Rattle.packet_fields.specs.declared.field.Field.TheVariants.{Tag}
use Rattle.packet_version.specs.Parts.{Parts, AreTags}
use Rattle.packet_version.specs.Splitting.{PlainApart, IsWhole}
use Rattle.packet_version.specs.Rejoining.{rejoined_parts}
use Rattle.packet_version.proofs.Maps.{as_map-listed}
use Rattle.merge_ops.specs.Merging.{op_of}
use Rattle.merge_ops.specs.Taking.{merged_parts, merged_packet}
use Rattle.merge_ops.specs.declared.arrival.Arrival.TheVariants.{Version}
use Rattle.merge_ops.proofs.OnlyBranch.{only_merged, only_tags, only_packet, alone_goes_on}
use Rattle.merge_ops.proofs.Whole.{kept_tags, whole_behind}
use Rattle.merge_ops.proofs.alone.merge_whole.Goals as goal

pub rejoin-requires-clause-whole : goal.rejoin-requires-clause-whole
rejoin-requires-clause-whole c =
    let v = c.args.version in
    let base = c.requires.0 in
    let came = c.requires.2 in
    let same = only_merged base v c.written_is_own.ensures.unwritten in
    let listed = as_map-listed (merged_parts base (Version v ∷ [])) in
    let tags : AreTags (merged_parts base (Version v ∷ []) Tag) = subst (λ (m : Parts). AreTags (m Tag)) same (only_tags base v c.tags_are_whole.ensures (kept_tags came.whole came.touches base (Version v ∷ []) came.from)) in
    let whole = whole_behind came.whole came.touches base (merged_packet base (Version v ∷ [])) (Version v ∷ []) (map (op_of (Version v ∷ [])) all_fields) came.from (alone_goes_on v) refl (subst (λ (m : Parts). AreTags (m Tag)) (sym listed) tags) in
    subst (λ (o : Option PlainApart). IfSome o (λ b. IsWhole (rejoined_parts v b) b.rest)) (sym c.requires.1) (subst (λ (m : Parts). IsWhole m base.rest) (listed ∙ sym same) whole)

pub returns : goal.returns
returns c = only_packet c.args.version c.rejoin.result c.args.version.kept c.written_is_own.ensures.unwritten c.rejoin.ensures
