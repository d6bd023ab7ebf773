-- For proofs: a step that writes one field, and only if it is present, obeys a profile that writes the field.
use Rattle.std.specs.Prelude.{◌≡◌, ◌≢◌, ℕ, List, length, Bool, true, false, ◌&&◌, ◌==◌, if◌then◌else◌, Option, None, is_some, IfSome, IsSomeAnd, refl}
use Rattle.std.proofs.Common.{◌∙◌, sym, ap, subst}
use Rattle.std.proofs.lemmas.Bool.{eqb-true}
use Rattle.packet_fields.specs.Fields.{number_of, IsLengthOf}
use Rattle.packet_fields.specs.declared.field.Field.{Field}
use Rattle.packet_fields.specs.declared.field.Field.TheVariants.{LinkDst, LinkSrc, Tag, Tos, Ttl, SrcIp, DstIp, SrcPort, DstPort, Payload}
use Rattle.action_profile.specs.Profiles.{writes_of}
use Rattle.action_profile.specs.declared.rights.Profile.{Profile}
use Rattle.chain_walk.specs.Shown.{Values}
use Rattle.nf_mark.specs.OneField.{only}

-- the field that has this number
field_at : ℕ → Field
field_at n =
    if n == 0 then LinkDst else if n == 1 then LinkSrc else if n == 2 then Tag else if n == 3 then Tos else if n == 4 then Ttl else
    if n == 5 then SrcIp else if n == 6 then DstIp else if n == 7 then SrcPort else if n == 8 then DstPort else Payload

at_number : (f : Field) → field_at (number_of f) ≡ f
unfolding field_at
at_number LinkDst = refl
at_number LinkSrc = refl
at_number Tag = refl
at_number Tos = refl
at_number Ttl = refl
at_number SrcIp = refl
at_number DstIp = refl
at_number SrcPort = refl
at_number DstPort = refl
at_number Payload = refl

-- fields of one number are one field
same_field : (f x : Field) → (number_of f == number_of x) ≡ true → f ≡ x
same_field f x is = let same : number_of f ≡ number_of x = eqb-true (number_of f) (number_of x) is in sym (at_number f) ∙ ap field_at same ∙ at_number x

module _ (p : Profile) (v : Values) (f : Field) (new : Option (List ℕ)) where
  -- it is written if it is there
  pub writes_only : writes_of p f ≡ true → (is_some (v f) ≡ false → new ≡ None) → (x : Field) → (writes_of p x && is_some (v x)) ≡ false → only f new x ≡ None
  writes_only does there x h = by (number_of f == number_of x) refl
    where
      absent : f ≡ x → is_some (v f) ≡ false
      absent same = sym (ap (λ b. b && is_some (v f)) does) ∙ subst (λ y. (writes_of p y && is_some (v y)) ≡ false) (sym same) h

      by : (b : Bool) → (number_of f == number_of x) ≡ b → (if b then new else None) ≡ None
      by true is = there (absent (same_field f x is))
      by false is = refl

  -- it keeps its length, unless it is the tags
  pub lengths_only : (f ≢ Tag → IfSome (v f) (λ old. IsLengthOf f (length old)) → IfSome new (λ n. IsSomeAnd (v f) (λ old. length n ≡ length old))) →
      (x : Field) → x ≢ Tag → IfSome (v x) (λ old. IsLengthOf x (length old)) → IfSome (only f new x) (λ n. IsSomeAnd (v x) (λ old. length n ≡ length old))
  lengths_only keeps x other formed = by (number_of f == number_of x) refl
    where
      by : (b : Bool) → (number_of f == number_of x) ≡ b → IfSome (if b then new else None) (λ n. IsSomeAnd (v x) (λ old. length n ≡ length old))
      by true is = let same : f ≡ x = same_field f x is in
          subst (λ y. IfSome new (λ n. IsSomeAnd (v y) (λ old. length n ≡ length old))) same
          (keeps (λ tag. other (sym same ∙ tag)) (subst (λ y. IfSome (v y) (λ old. IsLengthOf y (length old))) (sym same) formed))
      by false is = tt
