-- A version in which a function of a branch wrote, as the law of graphs sees it.
use Rattle.std.proofs.Common.{◌≡◌, ◌∙◌, ℕ, Bool, true, false, List, ap, refl, sym}
use mathlib.Core.Path.{fun_ext}
use Rattle.std.specs.Prelude.{Option, Some, None, is_some, option_map, ◌&&◌}
use Rattle.std.specs.Option.{option_or}
use Rattle.std.proofs.lemmas.Option.{none-some}
use Rattle.packet_fields.specs.declared.field.Field.{Field}
use Rattle.packet_fields.specs.declared.field.Field.TheVariants.{LinkDst, LinkSrc, Tag, Tos, Ttl, SrcIp, DstIp, SrcPort, DstPort, Payload}
use Rattle.action_profile.specs.Profiles.{writes_of}
use Rattle.chain_walk.specs.Shown.{Values}
use Rattle.chain_walk.specs.Step.{Behaviour, stepped}
use Rattle.chain_walk.specs.Laws.{KeepsProfile}
use Rattle.graph_law.specs.Branches.{writer_by, written_at}
use Rattle.packet_version.specs.Parts.{PlainPart, Parts, as_map, as_list, writer_in}
use Rattle.packet_version.specs.Versions.{PlainVersion, version_parts}
use Rattle.packet_version.specs.Views.{rewritten_by}
use Rattle.graph_run.specs.Carrying.{as_version, wrote_at}

abbrev bytes_in : Option PlainPart → Option (List ℕ)
bytes_in part = option_map (λ p. p.bytes) part

-- a list that was made field by field, read as a map
at_field : (g : Parts) (f : Field) → as_map (as_list g) f ≡ g f
at_field g LinkDst = refl
at_field g LinkSrc = refl
at_field g Tag = refl
at_field g Tos = refl
at_field g Ttl = refl
at_field g SrcIp = refl
at_field g DstIp = refl
at_field g SrcPort = refl
at_field g DstPort = refl
at_field g Payload = refl

part_after : (q : ℕ) (new : Values) (v : PlainVersion) (f : Field) → version_parts (wrote_at q new v) f ≡ rewritten_by (new f) q (version_parts v f)
part_after q new v f = at_field (λ g. rewritten_by (new g) q (version_parts v g)) f

bytes_after : (w : Option (List ℕ)) (o : Option PlainPart) (q : ℕ) → (is_some o ≡ false → w ≡ None) → bytes_in (rewritten_by w q o) ≡ option_or w (bytes_in o)
bytes_after None o q h = refl
bytes_after (Some w) None q h = absurd (none-some w (sym (h refl)))
bytes_after (Some w) (Some p) q h = refl

writer_after : (w : Option (List ℕ)) (o : Option PlainPart) (q : ℕ) → (is_some o ≡ false → w ≡ None) → writer_in (rewritten_by w q o) ≡ writer_by w q (writer_in o)
writer_after None o q h = refl
writer_after (Some w) None q h = absurd (none-some w (sym (h refl)))
writer_after (Some w) (Some p) q h = refl

as_wrote : (q : ℕ) (new : Values) (v : PlainVersion) → ((f : Field) → is_some (version_parts v f) ≡ false → new f ≡ None) → as_version (wrote_at q new v) ≡ written_at q new (as_version v)
as_wrote q new v there = λ i. record {
  values = fun_ext (λ f. ap bytes_in (part_after q new v f) ∙ bytes_after (new f) (version_parts v f) q (there f)) i;
  writers = fun_ext (λ f. ap writer_in (part_after q new v f) ∙ writer_after (new f) (version_parts v f) q (there f)) i;
}

false_and : (a b : Bool) → b ≡ false → (a && b) ≡ false
false_and true b e = e
false_and false b e = refl

none_there : (o : Option PlainPart) → is_some o ≡ false → is_some (bytes_in o) ≡ false
none_there None e = refl
none_there (Some p) e = absurd cc

-- what a function writes in a version, if it obeys its profile
pub wrote_as : {F : Type 0} (b : Behaviour F) (q : ℕ) (f : F) (v : PlainVersion) → KeepsProfile b →
    as_version (wrote_at q (stepped b v.fixed f (as_version v).values).written v) ≡ written_at q (stepped b v.fixed f (as_version v).values).written (as_version v)
wrote_as b q f v keeps =
    as_wrote q (stepped b v.fixed f (as_version v).values).written v
    (λ x e. keeps.writes v.fixed f (as_version v).values x (false_and (writes_of (b.profile f) x) _ (none_there (version_parts v x) e)))
