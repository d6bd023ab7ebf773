-- A write leaves a version one that its branch may have made.
use Rattle.std.proofs.Common.{◌≡◌, ◌≢◌, ◌∙◌, ◌≤◌, ℕ, Bool, true, false, length, sym, ap, refl, subst, arith}
use Rattle.std.specs.Prelude.{if◌then◌else◌, Option, Some, None, is_some, option_map}
use Rattle.std.proofs.lemmas.Bool.Decides.{Decides-eqb}
use Rattle.packet_fields.specs.Fields.{number_of}
use Rattle.packet_fields.specs.declared.field.Field.{Field}
use Rattle.packet_fields.specs.declared.field.Field.TheVariants.{Tag}
use Rattle.action_profile.specs.declared.parts.Touch.{Touch}
use Rattle.action_profile.specs.Modes.{has_write}
use Rattle.packet_version.specs.Parts.{PlainPart, Parts, changed, is_field, writer_in}
use Rattle.packet_version.specs.Splitting.{PlainApart, packet_parts}
use Rattle.packet_version.specs.Versions.{PlainVersion, version_parts, with_part}
use Rattle.packet_version.specs.Dealing.{dealt_parts}
use Rattle.packet_version.proofs.Maps.{as_map-listed}
use Rattle.packet_version.proofs.DealtByField.{same_field}
use Rattle.merge_ops.specs.Behind.{IsMadeOf}

abbrev length_in : Option PlainPart → Option ℕ
length_in part = option_map (λ p. length p.bytes) part

-- what holds for the new part and for each other one holds for every field
changed_cases : (f g : Field) (part : Option PlainPart) (v : PlainVersion) (P : Option PlainPart → Type 0) → (f ≡ g → P part) → P (version_parts v g) → P (version_parts (with_part f part v) g)
changed_cases f g part v P own other = by_test (is_field f g) refl
  where
    by_test : (b : Bool) → is_field f g ≡ b → P (version_parts (with_part f part v) g)
    by_test true e = subst P (sym (ap (λ (m : Parts). m g) (as_map-listed (changed f part (version_parts v))) ∙ ap (λ (b : Bool). if b then part else version_parts v g) e)) (own (same_field f g ((Decides-eqb (number_of f) (number_of g)).0 e)))
    by_test false e = subst P (sym (ap (λ (m : Parts). m g) (as_map-listed (changed f part (version_parts v))) ∙ ap (λ (b : Bool). if b then part else version_parts v g) e)) other

pub made_on : (whole : PlainApart) (touch : Touch) (v : PlainVersion) (f : Field) (old new : PlainPart) → IsMadeOf whole touch v → has_write f touch ≡ true → version_parts v f ≡ Some old → 1 ≤ new.writer → (f ≢ Tag → length new.bytes ≡ length old.bytes) → IsMadeOf whole touch (with_part f (Some new) v)
made_on whole touch v f old new m w is by len =
    let dealt = dealt_parts touch (packet_parts whole) in
    record {
      touched = m.touched;
      there = λ g. changed_cases f g (Some new) v (λ o. is_some o ≡ is_some (dealt g)) (λ e. sym (ap (λ (o : Option PlainPart). is_some o) is) ∙ (m.there f ∙ ap (λ (h : Field). is_some (dealt h)) e)) (m.there g);
      own = λ g. changed_cases f g (Some new) v (λ o. writer_in o ≡ 0 → option_map (λ p. p.bytes) o ≡ option_map (λ p. p.bytes) (dealt g)) (λ e zero. absurd (omega arith)) (m.own g);
      lengths = λ g. changed_cases f g (Some new) v (λ o. g ≢ Tag → length_in o ≡ length_in (dealt g)) (λ e apart. ap (λ (n : ℕ). Some n) (len (λ t. apart (sym e ∙ t))) ∙ (sym (ap length_in is) ∙ (m.lengths f (λ t. apart (sym e ∙ t)) ∙ ap (λ (h : Field). length_in (dealt h)) e))) (m.lengths g);
    }

-- a field that the packet lacks remains absent
pub made_absent : (whole : PlainApart) (touch : Touch) (v : PlainVersion) (f : Field) → IsMadeOf whole touch v → version_parts v f ≡ None → IsMadeOf whole touch (with_part f None v)
made_absent whole touch v f m is =
    let dealt = dealt_parts touch (packet_parts whole) in
    record {
      touched = m.touched;
      there = λ g. changed_cases f g None v (λ o. is_some o ≡ is_some (dealt g)) (λ e. sym (ap (λ (o : Option PlainPart). is_some o) is) ∙ (m.there f ∙ ap (λ (h : Field). is_some (dealt h)) e)) (m.there g);
      own = λ g. changed_cases f g None v (λ o. writer_in o ≡ 0 → option_map (λ p. p.bytes) o ≡ option_map (λ p. p.bytes) (dealt g)) (λ e zero. sym (ap (λ (o : Option PlainPart). option_map (λ p. p.bytes) o) is) ∙ (m.own f (ap writer_in is) ∙ ap (λ (h : Field). option_map (λ p. p.bytes) (dealt h)) e)) (m.own g);
      lengths = λ g. changed_cases f g None v (λ o. g ≢ Tag → length_in o ≡ length_in (dealt g)) (λ e apart. sym (ap length_in is) ∙ (m.lengths f (λ t. apart (sym e ∙ t)) ∙ ap (λ (h : Field). length_in (dealt h)) e)) (m.lengths g);
    }
