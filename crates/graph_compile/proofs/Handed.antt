-- How a field is passed on, from what each branch does with it.
use Rattle.std.proofs.Common.{◌≡◌, ◌≢◌, ℕ, zero, suc, ◌<◌, ◌≤◌, Bool, true, false, ◌||◌, cond, List, [], ◌∷◌, length, refl, sym, ap, ◌∙◌, subst, arith, Some, None}
use Rattle.std.specs.Prelude.{◌==◌, nat_lt, Option, count_by, position, slice_get}
use Rattle.std.specs.Option.{option_map_or}
use Rattle.std.specs.List.{list_any, position_or_len}
use Rattle.std.proofs.lemmas.Bool.Decides.{nat_tests}
use Rattle.packet_fields.specs.declared.field.Field.{Field}
use Rattle.action_profile.specs.FieldSets.{has}
use Rattle.action_profile.specs.Modes.{has_write, has_touch, only_reads, written_mode, mode_of}
use Rattle.action_profile.specs.declared.parts.Mode.TheVariants.{Shared, Moved, Copied}
use Rattle.action_profile.specs.declared.parts.Touch.{Touch}
use Rattle.graph_compile.specs.Handing.{passes_at}
use Rattle.graph_compile.proofs.Counting.{one_if, count-cons, count-none}
use Rattle.graph_compile.proofs.FiveFacts.{each-from, any-count, count-two}
use Rattle.graph_compile.proofs.Touches.{position-some, touch-sum, unwritten-shared}

none-any : (p : Touch → Bool) (ts : List Touch) → ((k : ℕ) → passes_at p ts k ≡ false) → list_any p ts ≡ false
none-any p [] h = refl
none-any p (t ∷ ts) h = let here = h 0 in let rest = none-any p ts (λ k. h (suc k)) in grind arith

some-any : (p : Touch → Bool) (ts : List Touch) (k : ℕ) → passes_at p ts k ≡ true → list_any p ts ≡ true
some-any p [] k h = cc
some-any p (t ∷ ts) zero h = rw h refl
some-any p (t ∷ ts) (suc k) h = let rest = some-any p ts k h in or-right (p t) (list_any p ts) rest
  where
    or-right : (a b : Bool) → b ≡ true → (a || b) ≡ true
    or-right true b e = refl
    or-right false b e = e

-- the branch at a place that passes
record Passing (p : Touch → Bool) (ts : List Touch) (k : ℕ) : Type 0 where
  pub it : Touch
  pub there : slice_get ts k ≡ Some it
  pub passes : p it ≡ true

passing : (p : Touch → Bool) (ts : List Touch) (k : ℕ) → passes_at p ts k ≡ true → Passing p ts k
passing p [] k h = cc
passing p (t ∷ ts) zero h = record { it = t; there = refl; passes = h }
passing p (t ∷ ts) (suc k) h = let rest = passing p ts k h in record { it = rest.it; there = rest.there; passes = rest.passes }

two-count : (p : Touch → Bool) (ts : List Touch) (j k : ℕ) → j ≢ k → passes_at p ts j ≡ true → passes_at p ts k ≡ true → 2 ≤ count_by p ts
two-count p ts j k n h g =
    let a = passing p ts j h in
    let b = passing p ts k g in
    count-two p ts j k a.it b.it n a.there b.there a.passes b.passes

one-count : (p : Touch → Bool) (ts : List Touch) (k : ℕ) → passes_at p ts k ≡ true → ((j : ℕ) → j ≢ k → passes_at p ts j ≡ false) → count_by p ts ≡ 1
one-count p [] k h o = cc
one-count p (t ∷ ts) zero h o =
    let here : one_if (p t) ≡ 1 = ap one_if h in
    let none = count-none p ts (each-from (λ x. p x ≡ false) ts (λ i x e. ap (λ v. option_map_or p v false) (sym e) ∙ o (suc i) (λ z. cc))) in
    omega (arith, count-cons p t ts, here, none)
one-count p (t ∷ ts) (suc k) h o =
    let here : one_if (p t) ≡ 0 = ap one_if (o 0 (λ z. cc)) in
    let rest = one-count p ts k h (λ j n. o (suc j) (λ z. n (cc))) in
    omega (arith, count-cons p t ts, here, rest)

-- a search finds the first place that passes
record IsFirst (p : Touch → Bool) (ts : List Touch) (k : ℕ) : Type 0 where
  pub found : position_or_len p ts ≡ k
  pub within : k < length ts

first-at : (p : Touch → Bool) (ts : List Touch) (k : ℕ) → passes_at p ts k ≡ true → ((i : ℕ) → i < k → passes_at p ts i ≡ false) → IsFirst p ts k
first-at p [] k h b = cc
first-at p (t ∷ ts) zero h b = record { found = rw h refl; within = omega arith }
first-at p (t ∷ ts) (suc k) h b =
    let none : p t ≡ false = b 0 (omega arith) in
    let rest = first-at p ts k h (λ i l. b (suc i) (omega arith)) in
    let found = rest.found in
    let within = rest.within in
    record { found = rw none (omega (arith, found)); within = omega (arith, within) }

position-first : (p : Touch → Bool) (ts : List Touch) (k : ℕ) → passes_at p ts k ≡ true → ((i : ℕ) → i < k → passes_at p ts i ≡ false) → position p ts ≡ Some k
position-first p ts k h b =
    let f = first-at p ts k h b in
    let P : ℕ → Type 0 = λ n. cond (nat_lt n (length ts)) (Some n) None ≡ Some k in
    let within = f.within in
    let test : nat_lt k (length ts) ≡ true = grind (arith, nat_tests) in
    subst P (sym f.found) (rw test refl)

written-is : (touches : List Touch) (f : Field) (k : ℕ) → position (has_write f) touches ≡ Some k → mode_of touches f ≡ written_mode touches f k
unfolding mode_of
written-is touches f k e = ap (λ (o : Option ℕ). option_map_or (written_mode touches f) o Shared) e

-- a branch that writes also touches
touch-write : (f : Field) (touches : List Touch) (k : ℕ) → passes_at (has_write f) touches k ≡ true → passes_at (has_touch f) touches k ≡ true
touch-write f [] k h = cc
touch-write f (t ∷ ts) zero h = or-right (has t.reads f) (has t.writes f) h
  where
    or-right : (a b : Bool) → b ≡ true → (a || b) ≡ true
    or-right true b e = refl
    or-right false b e = e
touch-write f (t ∷ ts) (suc k) h = touch-write f ts k h

untouched-unwritten : (f : Field) (touches : List Touch) (k : ℕ) → passes_at (has_touch f) touches k ≡ false → passes_at (has_write f) touches k ≡ false
untouched-unwritten f touches k h =
    elim (passes_at (has_write f) touches k) as (λ b. passes_at (has_write f) touches k ≡ b → b ≡ false) [
      | true ↦ λ e. let t = touch-write f touches k e in cc
      | false ↦ λ e. refl
    ] refl

pub handed-shared : (touches : List Touch) (f : Field) → ((k : ℕ) → passes_at (has_write f) touches k ≡ false) → mode_of touches f ≡ Shared
handed-shared touches f h = unwritten-shared touches f (none-any (has_write f) touches h)

pub handed-moved : (touches : List Touch) (f : Field) (k : ℕ) → passes_at (has_write f) touches k ≡ true → ((j : ℕ) → j ≢ k → passes_at (has_touch f) touches j ≡ false) → mode_of touches f ≡ Moved k
handed-moved touches f k h o =
    let first = position-first (has_write f) touches k h (λ i l. untouched-unwritten f touches i (o i (λ z. absurd (omega (arith, l, z))))) in
    let one = one-count (has_touch f) touches k (touch-write f touches k h) o in
    let test : (count_by (has_touch f) touches == 1) ≡ true = grind (arith, nat_tests) in
    written-is touches f k first ∙ ap (λ (b : Bool). cond b (Moved k) (Copied (cond (list_any (only_reads f) touches) None (Some k)))) test

pub handed-leased : (touches : List Touch) (f : Field) (j k : ℕ) → passes_at (has_write f) touches j ≡ true → passes_at (only_reads f) touches k ≡ true → mode_of touches f ≡ Copied None
handed-leased touches f j k h r =
    let writes = some-any (has_write f) touches j h in
    let reads = some-any (only_reads f) touches k r in
    let first = position-some (has_write f) touches writes in
    let more = any-count (has_write f) touches writes in
    let other = any-count (only_reads f) touches reads in
    let two : 2 ≤ count_by (has_touch f) touches = omega (arith, touch-sum f touches, more, other) in
    let test : (count_by (has_touch f) touches == 1) ≡ false = grind (arith, nat_tests) in
    written-is touches f first.at first.is
    ∙ ap (λ (b : Bool). cond b (Moved first.at) (Copied (cond (list_any (only_reads f) touches) None (Some first.at)))) test
    ∙ ap (λ (b : Bool). Copied (cond b None (Some first.at))) reads

pub handed-first : (touches : List Touch) (f : Field) (j k : ℕ) → passes_at (has_write f) touches j ≡ true → ((i : ℕ) → i < j → passes_at (has_write f) touches i ≡ false) →
    j ≢ k → passes_at (has_touch f) touches k ≡ true → ((i : ℕ) → passes_at (only_reads f) touches i ≡ false) → mode_of touches f ≡ Copied (Some j)
handed-first touches f j k h b n g o =
    let first = position-first (has_write f) touches j h b in
    let two = two-count (has_touch f) touches j k n (touch-write f touches j h) g in
    let test : (count_by (has_touch f) touches == 1) ≡ false = grind (arith, nat_tests) in
    let none = none-any (only_reads f) touches o in
    written-is touches f j first
    ∙ ap (λ (c : Bool). cond c (Moved j) (Copied (cond (list_any (only_reads f) touches) None (Some j)))) test
    ∙ ap (λ (c : Bool). Copied (cond c None (Some j))) none
