-- What markers, taggers and nexthops write is what the rule that decides says.
use Rattle.std.proofs.Common.{◌≡◌, ◌∙◌, ℕ, [], ◌∷◌, ◌++◌, refl, ap, true, false}
use Rattle.std.specs.Prelude.{Bool, ◌&&◌, if◌then◌else◌, Option, Some, None, slice_get, IsSomeAnd}
use Rattle.std.specs.Option.{option_map}
use Rattle.packet_fields.specs.declared.field.Field.{Field}
use Rattle.packet_fields.specs.declared.field.Field.TheVariants.{LinkDst, LinkSrc, Tag, Tos}
use Rattle.frame_seen.specs.Seeing.{seen_by}
use Rattle.chain_walk.specs.Shown.{Shown}
use Rattle.packet_function.specs.declared.deciding.DecidingLine.TheVariants.{Rule}
use Rattle.function_lines.specs.Rules.{first_met}
use Rattle.nf_mark.specs.Links.{link_bytes}
use Rattle.nf_mark.specs.Markers.{all_seen, marker_decides, marker_step, tos_for}
use Rattle.nf_mark.specs.Nexthops.{links_by, nexthop_decides, nexthop_step}
use Rattle.nf_mark.specs.Taggers.{control_for, tag_of, tagged, tagger_decides, tagger_step}
use Rattle.nf_mark.specs.declared.marker.Marker.{Marker}
use Rattle.nf_mark.specs.declared.marker.MarkRule.{MarkRule}
use Rattle.nf_mark.specs.declared.nexthop.Nexthop.{Nexthop}
use Rattle.nf_mark.specs.declared.nexthop.NexthopRule.{NexthopRule}
use Rattle.nf_mark.specs.declared.tagger.Tagger.{Tagger}
use Rattle.nf_mark.specs.declared.tagger.TagRule.{TagRule}
use Rattle.nf_mark.proofs.UsedRules.{if_there, decides_at, none_decides}

-- a value of the rule that is used, for a packet for which rules are used
of_used : {R V : Type 0} (value : R → V) (may : Bool) (rule : Option R) → (if may then option_map value rule else None) ≡ option_map value (if may then rule else None)
of_used value true rule = refl
of_used value false rule = refl

if_used : {R : Type 0} (may : Bool) (met : Option R) (rule : R) → (may ≡ true) × (met ≡ Some rule) → (if may then met else None) ≡ Some rule
if_used may met rule h = ap (λ b. if b then met else None) h.0 ∙ h.1

module _ (m : Marker) (shown : Shown) where
  met_mark : Option MarkRule
  met_mark = first_met (λ rule. rule.fit) (all_seen shown) m.rules

  marks : (used : Option MarkRule) → (if shown.has Tos then met_mark else None) ≡ used → (marker_step m shown).written Tos ≡ option_map (λ rule. rule.tos ∷ []) used
  unfolding tos_for met_mark
  marks used is =
      ap (option_map (λ tos. tos ∷ [])) (of_used (λ rule. rule.tos) (shown.has Tos) met_mark ∙ ap (option_map (λ rule. rule.tos)) is) ∙ twice used
    where
      twice : (used : Option MarkRule) → option_map (λ tos. tos ∷ []) (option_map (λ rule. rule.tos) used) ≡ option_map (λ rule. rule.tos ∷ []) used
      twice None = refl
      twice (Some rule) = refl

  pub rule_marks : (place : ℕ) → marker_decides m shown ≡ Rule place ∷ [] → IsSomeAnd (slice_get m.rules place) (λ rule. (marker_step m shown).written Tos ≡ Some (rule.tos ∷ []))
  unfolding met_mark
  rule_marks place is = if_there (slice_get m.rules place) (λ rule h. marks (Some rule) (if_used (shown.has Tos) met_mark rule h))
      (decides_at (λ rule. rule.fit) (all_seen shown) m.rules (shown.has Tos) place is)

  pub none_marks : marker_decides m shown ≡ [] → (marker_step m shown).written Tos ≡ None
  unfolding met_mark
  none_marks is = marks None (none_decides (λ rule. rule.fit) (all_seen shown) m.rules (shown.has Tos) is)

module _ (t : Tagger) (shown : Shown) where
  met_tag : Option TagRule
  met_tag = first_met (λ rule. rule.fit) (seen_by shown.values shown.fixed.proto) t.rules

  tags : (used : Option TagRule) → (if shown.has Tag then met_tag else None) ≡ used → (tagger_step t shown).written Tag ≡ tagged (option_map (λ rule. rule.control) used) (shown.values Tag)
  unfolding control_for met_tag
  tags used is = ap (λ control. tagged control (shown.values Tag)) (of_used (λ rule. rule.control) (shown.has Tag) met_tag ∙ ap (option_map (λ rule. rule.control)) is)

  pub rule_tags : (place : ℕ) → tagger_decides t shown ≡ Rule place ∷ [] →
      IsSomeAnd (slice_get t.rules place) (λ rule. (tagger_step t shown).written Tag ≡ option_map (λ old. tag_of rule.control ++ old) (shown.values Tag))
  unfolding met_tag
  rule_tags place is = if_there (slice_get t.rules place) (λ rule h. tags (Some rule) (if_used (shown.has Tag) met_tag rule h))
      (decides_at (λ rule. rule.fit) (seen_by shown.values shown.fixed.proto) t.rules (shown.has Tag) place is)

  pub none_tags : tagger_decides t shown ≡ [] → (tagger_step t shown).written Tag ≡ None
  unfolding met_tag
  none_tags is = tags None (none_decides (λ rule. rule.fit) (seen_by shown.values shown.fixed.proto) t.rules (shown.has Tag) is)

module _ (n : Nexthop) (shown : Shown) where
  met_hop : Option NexthopRule
  met_hop = first_met (λ rule. rule.fit) (seen_by shown.values shown.fixed.proto) n.rules

  leads : (used : Option NexthopRule) → (if shown.has LinkDst && shown.has LinkSrc then met_hop else None) ≡ used → (f : Field) → (nexthop_step n shown).written f ≡ links_by used f
  unfolding met_hop
  leads used is f = ap (λ rule. links_by rule f) is

  pub rule_leads : (place : ℕ) → nexthop_decides n shown ≡ Rule place ∷ [] →
      IsSomeAnd (slice_get n.rules place)
      (λ rule. ((nexthop_step n shown).written LinkDst ≡ Some (link_bytes rule.link_dst)) × ((nexthop_step n shown).written LinkSrc ≡ Some (link_bytes rule.link_src)))
  unfolding met_hop
  rule_leads place is = if_there (slice_get n.rules place)
      (λ rule h. let used = if_used (shown.has LinkDst && shown.has LinkSrc) met_hop rule h in (leads (Some rule) used LinkDst, leads (Some rule) used LinkSrc))
      (decides_at (λ rule. rule.fit) (seen_by shown.values shown.fixed.proto) n.rules (shown.has LinkDst && shown.has LinkSrc) place is)

  pub none_leads : nexthop_decides n shown ≡ [] → (f : Field) → (nexthop_step n shown).written f ≡ None
  unfolding met_hop
  none_leads is f = leads None (none_decides (λ rule. rule.fit) (seen_by shown.values shown.fixed.proto) n.rules (shown.has LinkDst && shown.has LinkSrc) is) f
