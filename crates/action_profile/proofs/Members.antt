-- The set of a list of fields has these fields and no other.
use Rattle.std.proofs.Common.{◌≡◌, ◌≢◌, ◌∙◌, ℕ, ◌^◌, true, false, Bool, sym, ap, refl, List, [], ◌∷◌}
use Rattle.std.specs.Prelude.{◌==◌, ◌||◌, fold}
use Rattle.std.specs.List.{list_any}
use Rattle.std.specs.Int.{bit_at}
use Rattle.std.proofs.lemmas.Nat.Bits.{bit_at-pow_same, bit_at-pow_other, bit_at-zero}
use Rattle.std.proofs.lemmas.Bool.Decides.{Decides-eqb}
use Rattle.packet_fields.specs.Fields.{number_of}
use Rattle.packet_fields.specs.declared.field.Field.{Field}
use Rattle.action_profile.specs.declared.field_set.FieldSet.{FieldSet}
use Rattle.action_profile.specs.FieldSets.{has, alone, with_field, fields}
use Rattle.action_profile.proofs.Bits.{has_joined}

-- the one bit of a power
one_bit : (k i : ℕ) (same : Bool) → (k == i) ≡ same → (bit_at (2 ^ k) i == 1) ≡ same
one_bit k i true e =
    let k_is : k ≡ i = (Decides-eqb k i).0 e in
    ap (λ (j : ℕ). bit_at (2 ^ j) i == 1) k_is ∙ ap (λ (b : ℕ). b == 1) (bit_at-pow_same i)
one_bit k i false e =
    let apart : i ≢ k = λ same. (let t : (k == i) ≡ true = (Decides-eqb k i).1 (sym same) in cc) in
    ap (λ (b : ℕ). b == 1) (bit_at-pow_other k i apart)

pub has_alone : (g f : Field) → has (alone g) f ≡ (number_of g == number_of f)
has_alone g f = one_bit (number_of g) (number_of f) (number_of g == number_of f) refl

or_assoc : (a b c : Bool) → ((a || b) || c) ≡ (a || (b || c))
or_assoc true b c = refl
or_assoc false b c = refl

has_folded : (set : FieldSet) (fs : List Field) (f : Field) → has (fold with_field set fs) f ≡ (has set f || list_any (λ g. number_of g == number_of f) fs)
has_folded set [] f = or_none (has set f)
  where
    or_none : (a : Bool) → a ≡ (a || false)
    or_none true = refl
    or_none false = refl
has_folded set (g ∷ fs) f =
    let rest = list_any (λ g. number_of g == number_of f) fs in
    has_folded (with_field set g) fs f
    ∙ ap (λ (b : Bool). b || rest) (has_joined set (alone g) f)
    ∙ ap (λ (b : Bool). (has set f || b) || rest) (has_alone g f)
    ∙ or_assoc (has set f) (number_of g == number_of f) rest

-- no field is in the empty set
has_none : (f : Field) → has (record { 0 = 0 }) f ≡ false
has_none f = ap (λ (b : ℕ). b == 1) (bit_at-zero (number_of f))

-- a field is in the set of a list if the list has it
pub has_fields : (fs : List Field) (f : Field) → has (fields fs) f ≡ list_any (λ g. number_of g == number_of f) fs
has_fields fs f = has_folded (record { 0 = 0 }) fs f ∙ ap (λ (b : Bool). b || list_any (λ g. number_of g == number_of f) fs) (has_none f)
