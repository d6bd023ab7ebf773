-- Single bits of a set of fields.
use Rattle.std.proofs.Common.{◌≡◌, ◌<◌, ◌∙◌, ℕ, zero, suc, ◌*◌, ◌^◌, max, ap, arith}
use Rattle.std.specs.Prelude.{◌==◌, ◌||◌}
use Rattle.std.specs.Int.{bit_at}
use Rattle.std.specs.Int.RustNames.{bit_and}
use Rattle.std.proofs.lemmas.Nat.{pow_pos}
use Rattle.std.proofs.lemmas.Nat.Bits.{bit_at_or, bit_at-lt, and_pow}
use Rattle.std.proofs.lemmas.Bool.Decides.{nat_tests}
use Rattle.packet_fields.specs.Fields.{number_of}
use Rattle.packet_fields.specs.declared.field.Field.{Field}
use Rattle.action_profile.specs.declared.field_set.FieldSet.{FieldSet}
use Rattle.action_profile.specs.FieldSets.{has, joined}

one_of_two : (a b : ℕ) → a < 2 → b < 2 → (max a b == 1) ≡ ((a == 1) || (b == 1))
one_of_two a b ha hb = grind (arith, nat_tests)

pub has_joined : (a b : FieldSet) (f : Field) → has (joined a b) f ≡ (has a f || has b f)
has_joined a b f =
    ap (λ (n : ℕ). n == 1) (bit_at_or a.0 b.0 (number_of f))
    ∙ one_of_two (bit_at a.0 (number_of f)) (bit_at b.0 (number_of f)) (bit_at-lt a.0 (number_of f)) (bit_at-lt b.0 (number_of f))

masked : (b p : ℕ) → b < 2 → 0 < p → (b * p == p) ≡ (b == 1)
masked zero p hb hp = grind (arith, nat_tests)
masked (suc zero) p hb hp = grind (arith, nat_tests)
masked (suc (suc b)) p hb hp = absurd (omega arith)

pub has_tested : (a : FieldSet) (f : Field) → (bit_and a.0 (2 ^ number_of f) == 2 ^ number_of f) ≡ has a f
has_tested a f =
    ap (λ (n : ℕ). n == 2 ^ number_of f) (and_pow a.0 (number_of f))
    ∙ masked (bit_at a.0 (number_of f)) (2 ^ number_of f) (bit_at-lt a.0 (number_of f)) (pow_pos (number_of f))
