-- A field's number distinguishes it from every other field.
use Rattle.std.proofs.Common.{◌≡◌, ◌≢◌, ◌∙◌, ℕ, get_or, sym, ap, refl, ⊎_elim, ◌⊎◌, inl, inr}
use Rattle.std.proofs.lemmas.Bool.{cases_eq}
use Rattle.packet_fields.specs.Fields.{number_of}
use Rattle.packet_fields.specs.Writing.{all_fields}
use Rattle.packet_fields.specs.declared.field.Field.{Field}
use Rattle.packet_fields.specs.declared.field.Field.TheVariants.{LinkDst, LinkSrc, Tag, Tos, Ttl, SrcIp, DstIp, SrcPort, DstPort, Payload}

pub number-same : (f : Field) → get_or all_fields (number_of f) LinkDst ≡ f
number-same LinkDst = refl
number-same LinkSrc = refl
number-same Tag = refl
number-same Tos = refl
number-same Ttl = refl
number-same SrcIp = refl
number-same DstIp = refl
number-same SrcPort = refl
number-same DstPort = refl
number-same Payload = refl

pub same_number : (f g : Field) → number_of f ≡ number_of g → f ≡ g
same_number f g same = sym (number-same f) ∙ (ap (λ (n : ℕ). get_or all_fields n LinkDst) same ∙ number-same g)

pub same_field : (f g : Field) → (f ≡ g) ⊎ (f ≢ g)
same_field f g =
    ⊎_elim
    (λ (same : number_of f ≡ number_of g). inl (same_number f g same))
    (λ (differ : number_of f ≢ number_of g). inr (λ e. differ (ap (λ (h : Field). number_of h) e)))
    (cases_eq (number_of f) (number_of g))
