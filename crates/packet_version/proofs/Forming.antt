-- The parts of a packet have their fields' lengths, and its tags are whole.
use Rattle.std.proofs.Common.{◌≡◌, ◌≢◌, ℕ, true, List, length, ◌++◌, drop, sym, subst, refl, length-append, length-drop, length-take-le, arith}
use Rattle.std.specs.Borrow.{Bor}
use Rattle.std.specs.Prelude.{Option, Some, None, IfSome, IsSomeAnd, option_map}
use Rattle.std.specs.Option.{option_copied}
use Rattle.packet_fields.specs.Frames.{is_tag_list}
use Rattle.packet_fields.specs.Fields.{IsLengthOf}
use Rattle.packet_fields.specs.declared.field.Field.{Field}
use Rattle.packet_fields.specs.declared.field.Field.TheVariants.{Tag}
use Rattle.chain_walk.specs.Shown.{AreWellFormed}
use Rattle.chain_walk.proofs.WellFormedFields.{form_by_fit, whole_tags}
use Rattle.packet_version.specs.Parts.{PlainPart, Parts, values_of, rewritten, AreTags, IsPartOf}
use Rattle.packet_version.specs.Splitting.{IsWhole}
use Rattle.packet_version.specs.Lending.{over, edited}

-- bytes that are a field's, by the form of all
pub part_formed : (f : Field) (o : Option PlainPart) → IfSome (option_map (λ p. p.bytes) o) (λ bytes. IsLengthOf f (length bytes)) → (f ≡ Tag → AreTags o) → IsPartOf f o
part_formed f None size tags = tt
part_formed f (Some p) size tags = record { size = size; whole = tags }

values_tags : (o : Option PlainPart) → IfSome (option_map (λ p. p.bytes) o) (λ tags. is_tag_list tags ≡ true) → AreTags o
values_tags None tags = tt
values_tags (Some p) tags = tags

-- the parts of a whole packet
pub whole_formed : (parts : Parts) (frame : List ℕ) → IsWhole parts frame → (f : Field) → IsPartOf f (parts f)
whole_formed parts frame w f =
    let formed = form_by_fit (values_of parts) frame w.fits in
    part_formed f (parts f) (formed.lengths f) (λ is. subst (λ (g : Field). AreTags (parts g)) (sym is) (values_tags (parts Tag) formed.tags))

-- tags that are whole are a value of their field
pub tags_formed : (f : Field) (o : Option PlainPart) → f ≡ Tag → AreTags o → IsPartOf f o
tags_formed f None is tags = tt
tags_formed f (Some p) is tags = record { size = subst (λ (g : Field). IsLengthOf g (length p.bytes)) (sym is) (whole_tags p.bytes tags); whole = λ e. tags }

pub formed_tags : (f : Field) (o : Option PlainPart) → f ≡ Tag → IsPartOf f o → AreTags o
formed_tags f None is formed = tt
formed_tags f (Some p) is formed = formed.whole is

-- as many bytes in place of others, except for tags
pub same_formed : (f : Field) (o : Option PlainPart) (bytes : List ℕ) (writer : ℕ) → f ≢ Tag → IsSomeAnd (option_map (λ p. p.bytes) o) (λ old. length bytes ≡ length old) → IsPartOf f o → IsPartOf f (option_map (rewritten bytes writer) o)
same_formed f None bytes writer not_tag same formed = tt
same_formed f (Some p) bytes writer not_tag same formed = record { size = subst (IsLengthOf f) (sym same) formed.size; whole = λ is. absurd (not_tag is) }

over_length : (new old : List ℕ) → length (over new old) ≡ length old
over_length new old = length-take-le (length old) (new ++ drop (length new) old) (omega (arith, length-append new (drop (length new) old), length-drop (length new) old))

-- bytes that were left in a part, except for tags
pub edited_formed : (f : Field) (o : Option PlainPart) (new : List ℕ) (writer : ℕ) → f ≢ Tag → IsPartOf f o → IsPartOf f (option_map (edited new writer) o)
edited_formed f None new writer not_tag formed = tt
edited_formed f (Some p) new writer not_tag formed = record { size = subst (IsLengthOf f) (sym (over_length new p.bytes)) formed.size; whole = λ is. absurd (not_tag is) }

value_length : (f : Field) (o : Option PlainPart) → IsPartOf f o → IfSome (option_map (λ p. p.bytes) o) (λ bytes. IsLengthOf f (length bytes))
value_length f None formed = tt
value_length f (Some p) formed = formed.size

value_tags : (o : Option PlainPart) → IsPartOf Tag o → IfSome (option_map (λ p. p.bytes) o) (λ bytes. is_tag_list bytes ≡ true)
value_tags None formed = tt
value_tags (Some p) formed = formed.whole refl

-- parts that are their fields' have the form of a frame's values
pub values_formed : (parts : Parts) → ((f : Field) → IsPartOf f (parts f)) → AreWellFormed (values_of parts)
values_formed parts formed = record { lengths = λ f. value_length f (parts f) (formed f); tags = value_tags (parts Tag) (formed Tag) }

-- what is read from values has the form that they have
pub read_has : (P : List ℕ → Type 0) (read : Option (Bor (List ℕ))) (v : Option (List ℕ)) → option_copied read ≡ v → IfSome v P → IfSome read (λ bytes. P bytes.now)
read_has P None v is has = tt
read_has P (Some bytes) v is has = subst (λ (o : Option (List ℕ)). IfSome o P) (sym is) has
