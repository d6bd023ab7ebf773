-- The fields that some branch writes; the others have no writer.
use Rattle.std.proofs.Common.{◌≡◌, ◌∙◌, ◌<◌, ◌+◌, ℕ, zero, suc, Bool, true, false, List, [], ◌∷◌, take, sym, ap, refl, get_or, length, arith, add-one}
use Rattle.std.specs.Prelude.{if◌then◌else◌, ◌||◌, ◌==◌, Option, Some, None, position}
use Rattle.std.specs.List.{list_any}
use Rattle.std.proofs.lemmas.Bool.{false≢true}
use Rattle.std.proofs.lemmas.List.Folds.{list_any_at}
use Rattle.std.proofs.lemmas.List.Quantifiers.{position-Some}
use Rattle.packet_fields.specs.declared.field.Field.{Field}
use Rattle.merge_ops.specs.Merging.{writer_of, greatest_writer, last_writer}
use Rattle.merge_ops.specs.Taking.{writes_in}
use Rattle.merge_ops.specs.declared.arrival.Arrival.{Arrival}
use Rattle.merge_ops.specs.declared.arrival.Arrival.TheVariants.{Short}

-- neither of two, if their disjunction doesn't hold
pub neither : (a b : Bool) → (a || b) ≡ false → (a ≡ false) × (b ≡ false)
neither true b e = absurd (false≢true (sym e))
neither false b e = (refl, e)

-- a branch that doesn't write a field didn't write it
pub unwritten_by : (f : Field) (a : Arrival) → (0 < writer_of f a → writes_in f a ≡ true) → writes_in f a ≡ false → writer_of f a ≡ 0
unwritten_by f a wrote not = by_number (writer_of f a) refl
  where
    by_number : (n : ℕ) → writer_of f a ≡ n → writer_of f a ≡ 0
    by_number zero e = e
    by_number (suc n) e = absurd (false≢true (sym not ∙ wrote (omega (arith, e))))

zero_suc : (arrivals : List Arrival) (f : Field) (k : ℕ) (d : Arrival) → k < length arrivals → greatest_writer (take k arrivals) f ≡ 0 → writer_of f (get_or arrivals k d) ≡ 0 → greatest_writer (take (suc k) arrivals) f ≡ 0
zero_suc [] f k d below before here = absurd (omega arith)
zero_suc (a ∷ others) f zero d below before here = omega arith
zero_suc (a ∷ others) f (suc k) d below before here =
    let first : writer_of f a ≡ 0 = omega arith in
    let rest : greatest_writer (take k others) f ≡ 0 = omega arith in
    let more = zero_suc others f k d (omega arith) rest here in
    omega arith

-- no writer of the field in one more branch
pub zero_next : (arrivals : List Arrival) (f : Field) (k : ℕ) (d : Arrival) → k < length arrivals → greatest_writer (take k arrivals) f ≡ 0 → writer_of f (get_or arrivals k d) ≡ 0 → greatest_writer (take (k + 1) arrivals) f ≡ 0
zero_next arrivals f k d below before here = ap (λ (n : ℕ). greatest_writer (take n arrivals) f) (add-one k) ∙ zero_suc arrivals f k d below before here

-- a field without a writer is kept
pub none_last : (arrivals : List Arrival) (f : Field) → greatest_writer arrivals f ≡ 0 → last_writer arrivals f ≡ None
unfolding last_writer
none_last arrivals f e = ap (λ (n : ℕ). if n == 0 then None else position (λ a. writer_of f a == n) arrivals) e

-- no branch is the first to write a field that none writes
pub none_first : (arrivals : List Arrival) (f : Field) → list_any (writes_in f) arrivals ≡ false → position (writes_in f) arrivals ≡ None
none_first arrivals f none = by_place (position (writes_in f) arrivals) refl
  where
    by_place : (o : Option ℕ) → position (writes_in f) arrivals ≡ o → position (writes_in f) arrivals ≡ None
    by_place None e = e
    by_place (Some i) e = let found = position-Some (writes_in f) arrivals i Short e in absurd (false≢true (sym none ∙ list_any_at (writes_in f) arrivals i Short found.0 found.1))
