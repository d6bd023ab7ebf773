-- What is read after a write.
use Rattle.std.proofs.Common.{◌≡◌, ◌≢◌, ◌∙◌, ◌++◌, ℕ, Bool, true, false, List, length, drop, sym, ap, refl}
use mathlib.Core.Path.{fun_ext}
use Rattle.std.specs.Prelude.{Option, Some, None, option_map, if◌then◌else◌}
use Rattle.std.proofs.lemmas.Bool.Decides.{Decides-eqb}
use Rattle.packet_fields.specs.Fields.{number_of}
use Rattle.packet_fields.specs.Writing.{over as values_over}
use Rattle.packet_fields.specs.declared.field.Field.{Field}
use Rattle.packet_fields.specs.declared.field.Field.TheVariants.{Tag}
use Rattle.std.specs.Option.{option_or}
use Rattle.chain_walk.specs.Shown.{Values}
use Rattle.chain_walk.specs.Step.{nothing}
use Rattle.packet_version.specs.Parts.{PlainPart, Parts, as_list, changed, is_field, rewritten}
use Rattle.packet_version.specs.Versions.{with_part}
use Rattle.packet_version.specs.Views.{PlainView, seen_parts, seen_values, wrote, pushed, popped, wrote_all, rewritten_by, alone, WroteAlone}
use Rattle.packet_version.specs.Lending.{edited, over}
use Rattle.packet_version.specs.ViewLending.{left}
use Rattle.packet_version.proofs.Maps.{as_map-listed, as_list-again}
use Rattle.packet_version.proofs.DealtByField.{same_field, by_field}

changed_own : (f : Field) (part : Option PlainPart) (parts : Parts) → changed f part parts f ≡ part
changed_own f part parts = ap (λ (b : Bool). if b then part else parts f) ((Decides-eqb (number_of f) (number_of f)).1 refl)

changed_other : (f g : Field) (part : Option PlainPart) (parts : Parts) → f ≢ g → changed f part parts g ≡ parts g
changed_other f g part parts apart = by_test (is_field f g) refl
  where
    by_test : (b : Bool) → is_field f g ≡ b → changed f part parts g ≡ parts g
    by_test true e = absurd (apart (same_field f g ((Decides-eqb (number_of f) (number_of g)).0 e)))
    by_test false e = ap (λ (c : Bool). if c then part else parts g) e

-- a view after one part was put into a field's place
pub wrote_alone : (view : PlainView) (f : Field) (part : Option PlainPart) → WroteAlone f part view (record view { version = with_part f part view.version })
wrote_alone view f part =
    let whole = as_map-listed (changed f part (seen_parts view)) in
    record {
      whole = whole;
      own = ap (λ (m : Parts). m f) whole ∙ changed_own f part (seen_parts view);
      others = λ g apart. ap (λ (m : Parts). m g) whole ∙ changed_other f g part (seen_parts view) apart;
      touch = refl;
      fixed = refl;
      kept = refl;
      profile = refl;
      position = refl;
    }

-- a view with these parts
abbrev with_seen : PlainView → Parts → PlainView
with_seen view parts = record view { version = record view.version { parts = as_list parts } }

-- nothing was written in a view
pub unwritten_view : (view : PlainView) → length view.version.parts ≡ 10 → wrote_all nothing view ≡ view
unwritten_view view ten = ap (λ (ps : List (Option PlainPart)). let v : PlainView = record view { version = record view.version { parts = ps } } in v) (as_list-again view.version.parts ten)

-- one field was written
one_written : (view : PlainView) (f : Field) (new : Option (List ℕ)) (o : Option PlainPart) → o ≡ rewritten_by new view.position (seen_parts view f) → record view { version = with_part f o view.version } ≡ wrote_all (alone f new) view
one_written view f new o is = ap (λ (m : Parts). with_seen view m) (fun_ext (λ g. by_field f g (changed f o (seen_parts view) g ≡ rewritten_by (alone f new g) view.position (seen_parts view g))
    (λ same e.
    ap (λ (b : Bool). if b then o else seen_parts view g) e
    ∙ (is
    ∙ (ap (λ (h : Field). rewritten_by new view.position (seen_parts view h)) same ∙ sym (ap (λ (b : Bool). rewritten_by (if b then new else None) view.position (seen_parts view g)) e))))
    (λ apart e.
    ap (λ (b : Bool). if b then o else seen_parts view g) e ∙ sym (ap (λ (b : Bool). rewritten_by (if b then new else None) view.position (seen_parts view g)) e))))

pub set_one : (view : PlainView) (f : Field) (bytes : List ℕ) → wrote f bytes view ≡ wrote_all (alone f (Some bytes)) view
set_one view f bytes = one_written view f (Some bytes) (option_map (rewritten bytes view.position) (seen_parts view f)) refl

by_value : (change : List ℕ → List ℕ) (position : ℕ) (o : Option PlainPart) → option_map (λ part. rewritten (change part.bytes) position part) o ≡ rewritten_by (option_map change (option_map (λ part. part.bytes) o)) position o
by_value change position None = refl
by_value change position (Some part) = refl

pub left_one : (view : PlainView) (f : Field) (bytes : List ℕ) → left f bytes view ≡ wrote_all (alone f (option_map (over bytes) (seen_values view f))) view
left_one view f bytes = one_written view f (option_map (over bytes) (seen_values view f)) (option_map (edited bytes view.position) (seen_parts view f)) (by_value (over bytes) view.position (seen_parts view f))

pub pushed_one : (view : PlainView) (tag : List ℕ) → pushed tag view ≡ wrote_all (alone Tag (option_map (λ tags. tag ++ tags) (seen_values view Tag))) view
pushed_one view tag = one_written view Tag (option_map (λ tags. tag ++ tags) (seen_values view Tag)) (option_map (λ part. rewritten (tag ++ part.bytes) view.position part) (seen_parts view Tag)) (by_value (λ tags. tag ++ tags) view.position (seen_parts view Tag))

pub popped_one : (view : PlainView) → popped view ≡ wrote_all (alone Tag (option_map (λ tags. drop 4 tags) (seen_values view Tag))) view
popped_one view = one_written view Tag (option_map (λ tags. drop 4 tags) (seen_values view Tag)) (option_map (λ part. rewritten (drop 4 part.bytes) view.position part) (seen_parts view Tag)) (by_value (λ tags. drop 4 tags) view.position (seen_parts view Tag))

-- what is present after some values were written
pub parts_written : (view : PlainView) (new : Values) (f : Field) → seen_parts (wrote_all new view) f ≡ rewritten_by (new f) view.position (seen_parts view f)
parts_written view new f = ap (λ (m : Parts). m f) (as_map-listed (λ g. rewritten_by (new g) view.position (seen_parts view g)))

rewritten_twice : (later first : Option (List ℕ)) (position : ℕ) (o : Option PlainPart) → rewritten_by later position (rewritten_by first position o) ≡ rewritten_by (option_or later first) position o
rewritten_twice None first position o = refl
rewritten_twice (Some bytes) None position o = refl
rewritten_twice (Some bytes) (Some old) position None = refl
rewritten_twice (Some bytes) (Some old) position (Some part) = refl

-- later values replace the first
pub written_twice : (view : PlainView) (first later : Values) → wrote_all later (wrote_all first view) ≡ wrote_all (values_over later first) view
written_twice view first later = ap (λ (m : Parts). with_seen view m)
    (fun_ext (λ f. ap (λ (o : Option PlainPart). rewritten_by (later f) view.position o) (parts_written view first f) ∙ rewritten_twice (later f) (first f) view.position (seen_parts view f)))
