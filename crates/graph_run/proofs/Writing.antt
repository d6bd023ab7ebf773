-- A version in which a function wrote, field by field.
use Rattle.std.proofs.Common.{◌≡◌, ◌∙◌, ◌≤◌, ℕ, false, List, length, sym, ap, refl, arith}
use mathlib.Core.Path.{fun_ext}
use Rattle.std.specs.Prelude.{Option, Some, None, is_some, option_map, IfSome, IsSomeAnd}
use Rattle.std.specs.Option.{option_or}
use Rattle.std.proofs.lemmas.Option.{none-some}
use Rattle.packet_fields.specs.declared.field.Field.{Field}
use Rattle.chain_walk.specs.Shown.{Values}
use Rattle.graph_law.specs.Branches.{writer_by, written_at}
use Rattle.packet_version.specs.Parts.{PlainPart, Parts, writer_in}
use Rattle.packet_version.specs.Versions.{PlainVersion, version_parts}
use Rattle.packet_version.specs.Views.{rewritten_by}
use Rattle.graph_run.specs.Carrying.{as_version, wrote_at}
use Rattle.graph_run.proofs.Listed.{map_of_list}

abbrev pub bytes_in : Option PlainPart → Option (List ℕ)
bytes_in part = option_map (λ p. p.bytes) part

abbrev pub length_in : Option PlainPart → Option ℕ
length_in part = option_map (λ p. length p.bytes) part

pub part_after : (q : ℕ) (new : Values) (v : PlainVersion) (f : Field) → version_parts (wrote_at q new v) f ≡ rewritten_by (new f) q (version_parts v f)
part_after q new v f = ap (λ (m : Parts). m f) (map_of_list (λ g. rewritten_by (new g) q (version_parts v g)))

bytes_after : (w : Option (List ℕ)) (o : Option PlainPart) (q : ℕ) → (is_some o ≡ false → w ≡ None) → bytes_in (rewritten_by w q o) ≡ option_or w (bytes_in o)
bytes_after None o q h = refl
bytes_after (Some w) None q h = absurd (none-some w (sym (h refl)))
bytes_after (Some w) (Some p) q h = refl

writer_after : (w : Option (List ℕ)) (o : Option PlainPart) (q : ℕ) → (is_some o ≡ false → w ≡ None) → writer_in (rewritten_by w q o) ≡ writer_by w q (writer_in o)
writer_after None o q h = refl
writer_after (Some w) None q h = absurd (none-some w (sym (h refl)))
writer_after (Some w) (Some p) q h = refl

-- a field that is written if it is present is written in the version that the law sees
pub as_wrote : (q : ℕ) (new : Values) (v : PlainVersion) → ((f : Field) → is_some (version_parts v f) ≡ false → new f ≡ None) → as_version (wrote_at q new v) ≡ written_at q new (as_version v)
as_wrote q new v there = λ i. record {
  values = fun_ext (λ f. ap bytes_in (part_after q new v f) ∙ bytes_after (new f) (version_parts v f) q (there f)) i;
  writers = fun_ext (λ f. ap writer_in (part_after q new v f) ∙ writer_after (new f) (version_parts v f) q (there f)) i;
}

pub there_after : (w : Option (List ℕ)) (q : ℕ) (o : Option PlainPart) → is_some (rewritten_by w q o) ≡ is_some o
there_after None q o = refl
there_after (Some w) q None = refl
there_after (Some w) q (Some p) = refl

pub own_after : (w : Option (List ℕ)) (q : ℕ) (o : Option PlainPart) (x : Option (List ℕ)) → 1 ≤ q → (writer_in o ≡ 0 → bytes_in o ≡ x) → writer_in (rewritten_by w q o) ≡ 0 → bytes_in (rewritten_by w q o) ≡ x
own_after None q o x pos h z = h z
own_after (Some w) q None x pos h z = h refl
own_after (Some w) q (Some p) x pos h z = absurd (omega arith)

pub length_after : (w : Option (List ℕ)) (q : ℕ) (o : Option PlainPart) → IfSome w (λ new. IsSomeAnd (bytes_in o) (λ old. length new ≡ length old)) → length_in (rewritten_by w q o) ≡ length_in o
length_after None q o h = refl
length_after (Some w) q None h = refl
length_after (Some w) q (Some p) h = ap (λ (n : ℕ). Some n) h
