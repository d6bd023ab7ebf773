-- At each turn the earliest declared function that may be taken is taken.
use Rattle.std.proofs.Common.{◌≡◌, ℕ, zero, suc, ◌<◌, ◌≤◌, Bool, true, false, ◌||◌, not, cond, List, [], ◌∷◌, length, take, Some, None, refl, ◌∙◌, ap, arith, slice_index}
use Rattle.std.specs.Prelude.{◌==◌, find, Contains}
use Rattle.std.specs.List.{list_any, range_with_len, slice_index_or}
use Rattle.std.specs.Option.{option_map_or}
use Rattle.std.proofs.lemmas.Bool.Decides.{nat_tests}
use Rattle.std.proofs.lemmas.List.FromFn.{length-range_with_len}
use Rattle.std.proofs.lemmas.Map.Views.{Contains-from_any}
use Rattle.policy_check.specs.Arrangements.{IsFree, TakesEarliest}
use Rattle.policy_check.specs.Checked.{order_of}
use Rattle.policy_check.specs.Edges.{Edges}
use Rattle.policy_check.specs.Turns.{is_held, ready, without, taken}
use Rattle.policy_check.proofs.Arranging.{all-inside, any-inside, below-count}
use Rattle.policy_check.proofs.Ascending.{Ascends, Ascends-filter, Ascends-range, length-without, find_passes, find_inside}
use Rattle.policy_check.proofs.Inside.{inside, inside-without, find_none_inside}
use Rattle.policy_check.proofs.WaitingLemmas.{range-any}

-- the same as `IsFree`, for the functions that wait
record Free (edge : Edges) (waiting front : List ℕ) (x : ℕ) : Type 0 where
  within : inside x waiting ≡ true
  waits : inside x front ≡ false
  follows : (a : ℕ) → inside a waiting ≡ true → edge a x ≡ true → inside a front ≡ true

record EarliestFree (edge : Edges) (waiting front : List ℕ) (x : ℕ) : Type 0 where
  free : Free edge waiting front x
  earliest : (y : ℕ) → Free edge waiting front y → x ≤ y

any-exists : (p : ℕ → Bool) (xs : List ℕ) → list_any p xs ≡ true → (a : ℕ) × (inside a xs ≡ true) × (p a ≡ true)
any-exists p [] e = absurd cc
any-exists p (x ∷ xs) e =
    elim (p x) as (λ b. p x ≡ b → (b || list_any p xs) ≡ true → (a : ℕ) × (inside a (x ∷ xs) ≡ true) × (p a ≡ true)) [
      | true ↦ λ t f. let here : (x == x) ≡ true = grind (arith, nat_tests) in (x, rw here refl, t)
      | false ↦ λ t f. let rest = any-exists p xs f in let there : inside rest.0 xs ≡ true = rest.1 in let more : inside rest.0 (x ∷ xs) ≡ true = grind arith in (rest.0, more, rest.2)
    ] refl e

inside-above : (low y : ℕ) (xs : List ℕ) → Ascends low xs → inside y xs ≡ true → low ≤ y
inside-above low y [] h i = absurd cc
inside-above low y (z ∷ zs) h i =
    let first : low ≤ z = h.0 in
    elim (z == y) as (λ b. (z == y) ≡ b → (b || inside y zs) ≡ true → low ≤ y) [
      | true ↦ λ t j. let same : z ≡ y = grind (arith, nat_tests) in omega arith
      | false ↦ λ t j. let rest = inside-above (suc z) y zs h.1 j in omega arith
    ] refl i

-- what a search finds in an ascending list is the least that passes
find-least : (p : ℕ → Bool) (low : ℕ) (xs : List ℕ) (x y : ℕ) → Ascends low xs → find p xs ≡ Some x → inside y xs ≡ true → p y ≡ true → x ≤ y
find-least p low [] x y h e i t = absurd cc
find-least p low (z ∷ zs) x y h e i t =
    elim (p z) as (λ b. p z ≡ b → cond b (Some z) (find p zs) ≡ Some x → x ≤ y) [
      | true ↦ λ s f. let same : z ≡ x = cc in let least = inside-above z y (z ∷ zs) (omega arith, h.1) i in omega arith
      | false ↦ λ s f. elim (z == y) as (λ b. (z == y) ≡ b → (b || inside y zs) ≡ true → x ≤ y) [
        | true ↦ λ q j. let same : z ≡ y = grind (arith, nat_tests) in let fails : p y ≡ false = rw (← same) s in absurd cc
        | false ↦ λ q j. find-least p (suc z) zs x y h.1 f j t
      ] refl i
    ] refl e

inside-of-without : (z x : ℕ) (ys : List ℕ) → inside z (without x ys) ≡ true → ((z == x) ≡ false) × (inside z ys ≡ true)
inside-of-without z x [] i = absurd cc
inside-of-without z x (y ∷ ys) i =
    elim (y == x) as (λ b. (y == x) ≡ b → inside z (cond (not b) (y ∷ without x ys) (without x ys)) ≡ true → ((z == x) ≡ false) × (((y == z) || inside z ys) ≡ true)) [
      | true ↦ λ t j. let rest = inside-of-without z x ys j in let there : inside z ys ≡ true = rest.1 in (rest.0, grind arith)
      | false ↦ λ t j. elim (y == z) as (λ b. (y == z) ≡ b → (b || inside z (without x ys)) ≡ true → ((z == x) ≡ false) × ((b || inside z ys) ≡ true)) [
        | true ↦ λ s k. let same : y ≡ z = grind (arith, nat_tests) in (rw (← same) t, refl)
        | false ↦ λ s k. inside-of-without z x ys k
      ] refl j
    ] refl i

-- after the empty prefix those are free that nothing holds
free-first : (edge : Edges) (waiting : List ℕ) (x : ℕ) → inside x waiting ≡ true → is_held edge waiting x ≡ false → Free edge waiting [] x
free-first edge waiting x i h = record {
  within = i;
  waits = refl;
  follows = λ a j e. let held : is_held edge waiting x ≡ true = any-inside (λ a. edge a x) waiting a j e in absurd cc;
}

unheld-free : (edge : Edges) (waiting : List ℕ) (x : ℕ) → Free edge waiting [] x → is_held edge waiting x ≡ false
unheld-free edge waiting x f =
    elim (is_held edge waiting x) as (λ b. is_held edge waiting x ≡ b → b ≡ false) [
      | true ↦ λ e. let some = any-exists (λ a. edge a x) waiting e in let none : false ≡ true = f.follows some.0 some.1 some.2 in absurd cc
      | false ↦ λ e. refl
    ] refl

-- a function that was taken is either left out of those that wait or put in front
free-behind : (edge : Edges) (waiting front : List ℕ) (x z : ℕ) → Free edge (without x waiting) front z → Free edge waiting (x ∷ front) z
free-behind edge waiting front x z f =
    let there = inside-of-without z x waiting f.within in
    let other : (z == x) ≡ false = there.0 in
    let apart : (x == z) ≡ false = grind (arith, nat_tests) in
    record {
      within = there.1;
      waits = rw apart f.waits;
      follows = λ a i e. elim (x == a) as (λ b. (x == a) ≡ b → (b || inside a front) ≡ true) [
        | true ↦ λ t. refl
        | false ↦ λ t. let different : (a == x) ≡ false = grind (arith, nat_tests) in f.follows a (inside-without a x waiting different ∙ i) e
      ] refl;
    }

free-without : (edge : Edges) (waiting front : List ℕ) (x z : ℕ) → Free edge waiting (x ∷ front) z → Free edge (without x waiting) front z
free-without edge waiting front x z f =
    let out : ((x == z) || inside z front) ≡ false = f.waits in
    let apart : (x == z) ≡ false = grind arith in
    let other : (z == x) ≡ false = grind (arith, nat_tests) in
    record {
      within = inside-without z x waiting other ∙ f.within;
      waits = grind arith;
      follows = λ a i e.
          let there = inside-of-without a x waiting i in
          let different : (a == x) ≡ false = there.0 in
          let unlike : (x == a) ≡ false = grind (arith, nat_tests) in
          let among : ((x == a) || inside a front) ≡ true = f.follows a there.1 e in
          grind arith;
    }

taken-earliest : (edge : Edges) (turns : ℕ) (waiting : List ℕ) (i : ℕ) → Ascends 0 waiting → i < length (taken edge turns waiting) → EarliestFree edge waiting (take i (taken edge turns waiting)) (slice_index (taken edge turns waiting) i)
unfolding taken
taken-earliest edge zero waiting i h l = absurd (omega arith)
taken-earliest edge (suc turns) waiting zero h l =
    elim (ready edge waiting) as (λ o. ready edge waiting ≡ o → 0 < length (option_map_or (λ x. x ∷ taken edge turns (without x waiting)) o []) → EarliestFree edge waiting [] (slice_index (option_map_or (λ x. x ∷ taken edge turns (without x waiting)) o []) 0)) [
      | None ↦ λ e m. absurd (omega arith)
      | Some x ↦ λ e m.
          let passes : not (is_held edge waiting x) ≡ true = find_passes (λ x. not (is_held edge waiting x)) waiting x e in
          let unheld : is_held edge waiting x ≡ false = grind arith in
          record {
            free = free-first edge waiting x (find_inside (λ x. not (is_held edge waiting x)) waiting x e) unheld;
            earliest = λ y f. find-least (λ x. not (is_held edge waiting x)) 0 waiting x y h e f.within (ap not (unheld-free edge waiting y f));
          }
    ] refl l
taken-earliest edge (suc turns) waiting (suc i) h l =
    elim (ready edge waiting) as (λ o. ready edge waiting ≡ o → suc i < length (option_map_or (λ x. x ∷ taken edge turns (without x waiting)) o []) → EarliestFree edge waiting (take (suc i) (option_map_or (λ x. x ∷ taken edge turns (without x waiting)) o [])) (slice_index (option_map_or (λ x. x ∷ taken edge turns (without x waiting)) o []) (suc i))) [
      | None ↦ λ e m. absurd (omega arith)
      | Some x ↦ λ e m.
          let next = taken-earliest edge turns (without x waiting) i (Ascends-filter (λ y. not (y == x)) 0 waiting h) (omega arith) in
          let front = take i (taken edge turns (without x waiting)) in
          record {
            free = free-behind edge waiting front x (slice_index (taken edge turns (without x waiting)) i) next.free;
            earliest = λ y f. next.earliest y (free-without edge waiting front x y f);
          }
    ] refl l

-- after a turn for each, none may be taken after all that were
taken-all : (edge : Edges) (turns : ℕ) (waiting : List ℕ) (y : ℕ) → length waiting ≤ turns → ¬ Free edge waiting (taken edge turns waiting) y
unfolding taken
taken-all edge zero [] y l f = let there : false ≡ true = f.within in cc
taken-all edge zero (x ∷ xs) y l f = absurd (omega arith)
taken-all edge (suc turns) waiting y l f =
    elim (ready edge waiting) as (λ o. ready edge waiting ≡ o → ¬ Free edge waiting (option_map_or (λ x. x ∷ taken edge turns (without x waiting)) o []) y) [
      | None ↦ λ e f.
          let held : not (is_held edge waiting y) ≡ false = find_none_inside (λ x. not (is_held edge waiting x)) waiting y e f.within in
          let free : is_held edge waiting y ≡ false = unheld-free edge waiting y f in
          grind arith
      | Some x ↦ λ e f.
          let fewer = length-without x waiting (find_inside (λ x. not (is_held edge waiting x)) waiting x e) in
          taken-all edge turns (without x waiting) y (omega arith) (free-without edge waiting (taken edge turns (without x waiting)) x y f)
    ] refl f

-- the same for all the functions of a chain

inside-range : (count x : ℕ) → x < count → inside x (range_with_len 0 count) ≡ true
inside-range count x l = range-any (λ y. y == x) 0 count x (omega arith) (omega arith) (grind (arith, nat_tests))

range-inside : (count x : ℕ) → inside x (range_with_len 0 count) ≡ true → x < count
range-inside count x i = all-inside (λ x. x < count) (range_with_len 0 count) x (below-count count) i

Contains-inside : (xs : List ℕ) (x : ℕ) → inside x xs ≡ true → Contains xs x
Contains-inside xs x i = Contains-from_any {eq = λ a b. b == a} (λ a b e. grind (arith, nat_tests)) x xs i

inside-at : (xs : List ℕ) (k x : ℕ) → k < length xs → slice_index_or xs k x ≡ x → inside x xs ≡ true
inside-at [] k x l e = absurd (omega arith)
inside-at (y ∷ ys) zero x l e = let here : (y == x) ≡ true = grind (arith, nat_tests) in rw here refl
inside-at (y ∷ ys) (suc k) x l e = let rest = inside-at ys k x (omega arith) e in grind arith

inside-Contains : (xs : List ℕ) (x : ℕ) → Contains xs x → inside x xs ≡ true
inside-Contains xs x (k, l, e) = inside-at xs k x l e

is_free : (edge : Edges) (count : ℕ) (front : List ℕ) (x : ℕ) → Free edge (range_with_len 0 count) front x → IsFree edge count front x
is_free edge count front x f = record {
  within = range-inside count x f.within;
  waits = λ c. let there = inside-Contains front x c in let out = f.waits in absurd cc;
  follows = λ a l e. Contains-inside front a (f.follows a (inside-range count a l) e);
}

free : (edge : Edges) (count : ℕ) (front : List ℕ) (x : ℕ) → IsFree edge count front x → Free edge (range_with_len 0 count) front x
free edge count front x f = record {
  within = inside-range count x f.within;
  waits = elim (inside x front) as (λ b. inside x front ≡ b → b ≡ false) [ true ↦ λ i. absurd (f.waits (Contains-inside front x i)) | false ↦ λ i. refl ] refl;
  follows = λ a i e. inside-Contains front a (f.follows a (range-inside count a i) e);
}

pub takes_earliest : (edge : Edges) (count : ℕ) → TakesEarliest edge count (order_of edge count)
takes_earliest edge count i l =
    let turn = taken-earliest edge count (range_with_len 0 count) i (Ascends-range 0 count) l in
    let front = take i (order_of edge count) in
    record {
      free = is_free edge count front (slice_index (order_of edge count) i) turn.free;
      earliest = λ y f. turn.earliest y (free edge count front y f);
    }

pub none_free : (edge : Edges) (count y : ℕ) → ¬ IsFree edge count (order_of edge count) y
none_free edge count y f =
    taken-all edge count (range_with_len 0 count) y (omega (arith, length-range_with_len 0 count)) (free edge count (order_of edge count) y f)
