-- What is known about the arrivals that go on, and about the branch that wrote a field last.
use Rattle.std.proofs.Common.{◌≡◌, ◌≢◌, ◌∙◌, ◌<◌, ◌≤◌, ℕ, zero, suc, Bool, true, false, List, [], ◌∷◌, map, sym, refl, length, arith, max}
use Rattle.std.specs.Prelude.{if◌then◌else◌, ◌==◌, Option, Some, None, position}
use Rattle.std.specs.List.{list_any}
use Rattle.std.proofs.Math.Nat.{le-max_left, le-max_right}
use Rattle.std.proofs.lemmas.Bool.Decides.{Decides-eqb}
use Rattle.std.proofs.lemmas.List.Quantifiers.{position-Some}
use Rattle.packet_fields.specs.declared.field.Field.{Field}
use Rattle.action_profile.specs.FieldSets.{all_fields}
use Rattle.packet_version.proofs.Firsts.{NoneOf, none-position, none-any}
use Rattle.merge_ops.specs.Merging.{is_short, nil_of, writer_of, lesser, least_nil, greatest_writer, last_writer, op_of, decided_by, decision_of}
use Rattle.merge_ops.specs.Taking.{arrival_at}
use Rattle.merge_ops.specs.declared.arrival.Arrival.{Arrival}
use Rattle.merge_ops.specs.declared.arrival.Arrival.TheVariants.{Version, Nil, Short}
use Rattle.merge_ops.specs.declared.decision.MergeOp.{MergeOp}
use Rattle.merge_ops.specs.declared.decision.Decision.TheVariants.{Take, Short as Halted}

-- the arrivals of a packet that goes on by these operations
pub record GoesOn (arrivals : List Arrival) (ops : List MergeOp) : Type 0 where
  pub long : list_any is_short arrivals ≡ false
  pub kept : least_nil arrivals ≡ None
  pub by : ops ≡ map (op_of arrivals) all_fields

decided : (b : Bool) (o : Option ℕ) (arrivals : List Arrival) (ops : List MergeOp) → list_any is_short arrivals ≡ b → least_nil arrivals ≡ o → Take ops ≡ (if b then Halted else decided_by arrivals o) → GoesOn arrivals ops
decided true o arrivals ops s n e = absurd (cc)
decided false None arrivals ops s n e = record { long = s; kept = n; by = cc }
decided false (Some p) arrivals ops s n e = absurd (cc)

pub goes_on : (arrivals : List Arrival) (ops : List MergeOp) → Take ops ≡ decision_of arrivals → GoesOn arrivals ops
unfolding decision_of
goes_on arrivals ops e = decided (list_any is_short arrivals) (least_nil arrivals) arrivals ops refl refl e

abbrev pub is_version : Arrival → Bool
is_version (Version v) = true
is_version arrival = false

lesser_none : (p q : Option ℕ) → lesser p q ≡ None → (p ≡ None) × (q ≡ None)
lesser_none None q e = (refl, e)
lesser_none (Some p) None e = absurd (cc)
lesser_none (Some p) (Some q) e = absurd (cc)

is_one : (a : Arrival) → is_short a ≡ false → nil_of a ≡ None → is_version a ≡ true
is_one (Version v) short nil = refl
is_one (Nil p) short nil = absurd (cc)
is_one Short short nil = absurd (cc)

versions_at : (arrivals : List Arrival) (b : ℕ) → NoneOf is_short arrivals → least_nil arrivals ≡ None → b < length arrivals → is_version (arrival_at arrivals b) ≡ true
versions_at [] b long kept below = absurd (omega arith)
versions_at (a ∷ others) zero long kept below = is_one a long.0 (lesser_none (nil_of a) (least_nil others) kept).0
versions_at (a ∷ others) (suc b) long kept below = versions_at others b long.1 (lesser_none (nil_of a) (least_nil others) kept).1 (omega arith)

-- each of them is a version
pub version_at : (arrivals : List Arrival) (ops : List MergeOp) (b : ℕ) → GoesOn arrivals ops → b < length arrivals → is_version (arrival_at arrivals b) ≡ true
version_at arrivals ops b on below = versions_at arrivals b (none-any is_short arrivals on.long) on.kept below

-- no writer is later than the greatest
below_greatest : (arrivals : List Arrival) (f : Field) (b : ℕ) → writer_of f (arrival_at arrivals b) ≤ greatest_writer arrivals f
below_greatest [] f b = omega arith
below_greatest (a ∷ others) f zero = le-max_left (writer_of f a) (greatest_writer others f)
below_greatest (a ∷ others) f (suc b) = (let r = below_greatest others f b in let m = le-max_right (writer_of f a) (greatest_writer others f) in omega arith)

max_is : (a b : ℕ) → max a b ≢ a → max a b ≡ b
max_is a b apart = omega arith

-- and some writer is the greatest
reached : (arrivals : List Arrival) (f : Field) (m : ℕ) → m ≡ greatest_writer arrivals f → m ≢ 0 → NoneOf (λ a. writer_of f a == m) arrivals → ⊥
reached [] f m is some none = some is
reached (a ∷ others) f m is some none =
    reached others f m (is ∙ max_is (writer_of f a) (greatest_writer others f) (λ e. (let t : (writer_of f a == m) ≡ true = (Decides-eqb (writer_of f a) m).1 (sym (is ∙ e)) in let n : (writer_of f a == m) ≡ false = none.0 in cc))) some none.1

-- the branch that wrote a field last
pub record IsLast (arrivals : List Arrival) (f : Field) (b : ℕ) : Type 0 where
  pub below : b < length arrivals
  pub wrote : writer_of f (arrival_at arrivals b) ≢ 0
  pub greatest : writer_of f (arrival_at arrivals b) ≡ greatest_writer arrivals f

last_by : (arrivals : List Arrival) (f : Field) (b : ℕ) (t : Bool) → (greatest_writer arrivals f == 0) ≡ t → (if t then None else position (λ a. writer_of f a == greatest_writer arrivals f) arrivals) ≡ Some b → IsLast arrivals f b
last_by arrivals f b true is e = absurd (cc)
last_by arrivals f b false is e =
    let found = position-Some (λ a. writer_of f a == greatest_writer arrivals f) arrivals b Short e in
    let same : writer_of f (arrival_at arrivals b) ≡ greatest_writer arrivals f = (Decides-eqb (writer_of f (arrival_at arrivals b)) (greatest_writer arrivals f)).0 found.1 in
    record {
      below = found.0;
      greatest = same;
      wrote = λ zero. (let t : (greatest_writer arrivals f == 0) ≡ true = (Decides-eqb (greatest_writer arrivals f) 0).1 (sym same ∙ zero) in cc);
    }

pub last_is : (arrivals : List Arrival) (f : Field) (b : ℕ) → last_writer arrivals f ≡ Some b → IsLast arrivals f b
unfolding last_writer
last_is arrivals f b e = last_by arrivals f b (greatest_writer arrivals f == 0) refl e

unwritten_by : (arrivals : List Arrival) (f : Field) (t : Bool) → (greatest_writer arrivals f == 0) ≡ t → (if t then None else position (λ a. writer_of f a == greatest_writer arrivals f) arrivals) ≡ None → greatest_writer arrivals f ≡ 0
unwritten_by arrivals f true is e = (Decides-eqb (greatest_writer arrivals f) 0).0 is
unwritten_by arrivals f false is e =
    absurd (reached arrivals f (greatest_writer arrivals f) refl (λ zero. (let t : (greatest_writer arrivals f == 0) ≡ true = (Decides-eqb (greatest_writer arrivals f) 0).1 zero in cc)) (none-position (λ a. writer_of f a == greatest_writer arrivals f) arrivals e))

greatest_none : (arrivals : List Arrival) (f : Field) → last_writer arrivals f ≡ None → greatest_writer arrivals f ≡ 0
unfolding last_writer
greatest_none arrivals f e = unwritten_by arrivals f (greatest_writer arrivals f == 0) refl e

-- if there is none, there was no writer
pub last_none : (arrivals : List Arrival) (f : Field) (b : ℕ) → last_writer arrivals f ≡ None → writer_of f (arrival_at arrivals b) ≡ 0
last_none arrivals f b e = let g = greatest_none arrivals f e in let r = below_greatest arrivals f b in omega arith

-- the branch that wrote it last is the one with the greatest writer
pub last_greatest : (arrivals : List Arrival) (f : Field) (b k : ℕ) → last_writer arrivals f ≡ Some b → writer_of f (arrival_at arrivals k) ≤ writer_of f (arrival_at arrivals b)
last_greatest arrivals f b k e = let last = last_is arrivals f b e in let same = last.greatest in let below = below_greatest arrivals f k in omega arith

pub last_there : (arrivals : List Arrival) (f : Field) (b : ℕ) → last_writer arrivals f ≡ Some b → (b < length arrivals) × (0 < writer_of f (arrival_at arrivals b))
last_there arrivals f b e = let last = last_is arrivals f b e in (last.below, (let some = last.wrote in omega arith))
