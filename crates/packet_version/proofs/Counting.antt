-- Counts that rise.
use Rattle.std.proofs.Common.{◌≡◌, ◌∙◌, ◌≤◌, ◌+◌, ℕ, Bool, true, false, List, sym, ap, refl, subst, arith}
use Rattle.std.specs.Prelude.{if◌then◌else◌}
use Rattle.packet_fields.specs.declared.field.Field.{Field}
use Rattle.packet_version.specs.Parts.{is_field}
use Rattle.packet_version.specs.Tallies.{count_of, raised}
use Rattle.packet_version.specs.Raising.{RaisesBy, RaisesAtMost}

pub raised_none : (c : ℕ) → raised c 0 ≡ c
raised_none c = omega arith

pub raised_twice : (c a b : ℕ) → raised (raised c a) b ≡ raised c (a + b)
raised_twice c a b = omega arith

pub raised_up : (c a : ℕ) → c ≤ raised c a
raised_up c a = omega arith

pub raised_more : (c a b : ℕ) → a ≤ b → raised c a ≤ raised c b
raised_more c a b le = omega arith

if_plus : (t : Bool) (a b : ℕ) → (if t then a else 0) + (if t then b else 0) ≡ (if t then a + b else 0)
if_plus true a b = refl
if_plus false a b = refl

if_more : (t : Bool) (a b : ℕ) → a ≤ b → (if t then a else 0) ≤ (if t then b else 0)
if_more true a b le = le
if_more false a b le = omega arith

-- a count that rises twice
pub raises_twice : (f : Field) (a b : ℕ) (t u v : List ℕ) → RaisesBy a f t u → RaisesBy b f u v → RaisesBy (a + b) f t v
raises_twice f a b t u v first second g =
    second g
    ∙ (ap (λ (n : ℕ). raised n (if is_field f g then b else 0)) (first g)
    ∙ (raised_twice (count_of t g) (if is_field f g then a else 0) (if is_field f g then b else 0) ∙ ap (λ (n : ℕ). raised (count_of t g) n) (if_plus (is_field f g) a b)))

-- a count that did not rise
pub raises_none : (f : Field) (t : List ℕ) → RaisesBy 0 f t t
raises_none f t g = by_test (is_field f g)
  where
    by_test : (b : Bool) → count_of t g ≡ raised (count_of t g) (if b then 0 else 0)
    by_test true = sym (raised_none (count_of t g))
    by_test false = sym (raised_none (count_of t g))

-- a count that rose by some amount rose by at most any greater or equal one
pub raises_within : (f : Field) (a most : ℕ) (t u : List ℕ) → a ≤ most → RaisesBy a f t u → RaisesAtMost most f t u
raises_within f a most t u le rise g = (
  subst (λ (n : ℕ). count_of t g ≤ n) (sym (rise g)) (raised_up (count_of t g) (if is_field f g then a else 0)),
  subst (λ (n : ℕ). n ≤ raised (count_of t g) (if is_field f g then most else 0)) (sym (rise g)) (raised_more (count_of t g) (if is_field f g then a else 0) (if is_field f g then most else 0) (if_more (is_field f g) a most le)),
)
