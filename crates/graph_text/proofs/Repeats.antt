-- Numbers that occur once in a list.
use Rattle.std.proofs.Common.{◌≡◌, ◌≤◌, ◌+◌, ◌∙◌, ℕ, zero, suc, true, false, ◌||◌, List, [], ◌∷◌, ◌++◌, length, sym, ap, refl, arith, subst, eqb}
use Rattle.std.specs.Prelude.{◌==◌, flat_map, slice_get, Some}
use Rattle.std.specs.List.{list_any, AllByRecursion, IsDistinct}
use Rattle.std.proofs.lemmas.Bool.{eqb-true}
use Rattle.std.proofs.lemmas.Map.Steps.{length-le_from_distinct_below}
use Rattle.graph_compile.specs.Facts.{times}
use Rattle.graph_text.specs.Standing.{repeats}
use Rattle.graph_text.proofs.Tests.{or_false, or_none, or_left, or_right, any_append, any_weaker, count_none, count_cons, one_if_so, one_if_not, eqb_sym, all_at}

-- two lists, one after the other
pub parts_once : (xs ys : List ℕ) → repeats (xs ++ ys) ≡ false → (repeats xs ≡ false) × (repeats ys ≡ false)
parts_once [] ys e = (refl, e)
parts_once (x ∷ xs) ys e =
    let here = or_false (list_any (λ q. q == x) (xs ++ ys)) (repeats (xs ++ ys)) e in
    let rest = parts_once xs ys here.1 in
    let front = or_false (list_any (λ q. q == x) xs) (list_any (λ q. q == x) ys) (sym (any_append (λ q. q == x) xs ys) ∙ here.0) in
    (or_none (list_any (λ q. q == x) xs) (repeats xs) front.0 rest.0, rest.1)

pub repeats_behind : (xs ys : List ℕ) → repeats ys ≡ true → repeats (xs ++ ys) ≡ true
repeats_behind [] ys e = e
repeats_behind (x ∷ xs) ys e = or_right (list_any (λ q. q == x) (xs ++ ys)) (repeats (xs ++ ys)) (repeats_behind xs ys e)

pub repeats_across : (q : ℕ) (xs ys : List ℕ) → list_any (λ x. x == q) xs ≡ true → list_any (λ x. x == q) ys ≡ true → repeats (xs ++ ys) ≡ true
repeats_across q [] ys e f = absurd (cc)
repeats_across q (x ∷ xs) ys e f =
    elim (x == q) as (λ b. (x == q) ≡ b → (b || list_any (λ y. y == q) xs) ≡ true → repeats ((x ∷ xs) ++ ys) ≡ true) [
      | true ↦ λ i j.
          let P : ℕ → Type 0 = λ n. list_any (λ y. y == n) ys ≡ true in
          let behind : list_any (λ y. y == x) ys ≡ true = subst P (sym (eqb-true x q i)) f in
          or_left (list_any (λ y. y == x) (xs ++ ys)) (repeats (xs ++ ys)) (any_append (λ y. y == x) xs ys ∙ or_right (list_any (λ y. y == x) xs) (list_any (λ y. y == x) ys) behind)
      | false ↦ λ i j. or_right (list_any (λ y. y == x) (xs ++ ys)) (repeats (xs ++ ys)) (repeats_across q xs ys j f)
    ] refl e

pub joined_once : (xs ys : List ℕ) → repeats xs ≡ false → repeats ys ≡ false → list_any (λ p. list_any (λ q. q == p) xs) ys ≡ false → repeats (xs ++ ys) ≡ false
joined_once [] ys e f none = f
joined_once (x ∷ xs) ys e f none =
    let here = or_false (list_any (λ q. q == x) xs) (repeats xs) e in
    let apart : list_any (λ q. q == x) ys ≡ false = any_weaker (λ q. q == x) (λ p. list_any (λ q. q == p) (x ∷ xs)) ys
    (λ p i. or_left (x == p) (list_any (λ q. q == p) xs) (eqb_sym x p ∙ i)) none in
    let rest = joined_once xs ys here.1 f (any_weaker (λ p. list_any (λ q. q == p) xs) (λ p. list_any (λ q. q == p) (x ∷ xs)) ys (λ p i. or_right (x == p) (list_any (λ q. q == p) xs) i) none) in
    or_none (list_any (λ q. q == x) (xs ++ ys)) (repeats (xs ++ ys)) (any_append (λ q. q == x) xs ys ∙ or_none (list_any (λ q. q == x) xs) (list_any (λ q. q == x) ys) here.0 apart) rest

-- lists that are parts of one
pub part_once : {A : Type 0} (g : A → List ℕ) (xs : List A) (i : ℕ) (x : A) → slice_get xs i ≡ Some x → repeats (flat_map g xs) ≡ false → repeats (g x) ≡ false
part_once g [] i x e h = cc
part_once g (y ∷ ys) zero x e h = let same : y ≡ x = cc in ap (λ z. repeats (g z)) (sym same) ∙ (parts_once (g y) (flat_map g ys) h).0
part_once g (y ∷ ys) (suc i) x e h = part_once g ys i x e (parts_once (g y) (flat_map g ys) h).1

-- how often a number occurs
pub times_once : (q : ℕ) (xs : List ℕ) → repeats xs ≡ false → times q xs ≤ 1
times_once q [] e = omega arith
times_once q (x ∷ xs) e =
    let here = or_false (list_any (λ y. y == x) xs) (repeats xs) e in
    elim (x == q) as (λ b. (x == q) ≡ b → times q (x ∷ xs) ≤ 1) [
      | true ↦ λ i.
          let P : ℕ → Type 0 = λ n. list_any (λ y. y == n) xs ≡ false in
          let none = count_none (λ y. y == q) xs (subst P (eqb-true x q i) here.0) in
          omega (arith, count_cons (λ y. y == q) x xs, one_if_so (x == q) i, none)
      | false ↦ λ i. omega (arith, count_cons (λ y. y == q) x xs, one_if_not (x == q) i, times_once q xs here.1)
    ] refl

-- numbers up to a greatest that occur once are at most one more than the greatest
none_equal : (x : ℕ) (ys : List ℕ) → list_any (λ q. q == x) ys ≡ false → AllByRecursion (λ y. eqb x y ≡ false) ys
none_equal x [] e = tt
none_equal x (y ∷ ys) e =
    let here = or_false (y == x) (list_any (λ q. q == x) ys) e in
    (eqb_sym x y ∙ here.0, none_equal x ys here.1)

distinct : (xs : List ℕ) → repeats xs ≡ false → IsDistinct eqb xs
unfolding IsDistinct
distinct [] e = tt
distinct (x ∷ xs) e =
    let here = or_false (list_any (λ q. q == x) xs) (repeats xs) e in
    (none_equal x xs here.0, distinct xs here.1)

any_eqb : (q : ℕ) (xs : List ℕ) → list_any (eqb q) xs ≡ true → list_any (λ x. x == q) xs ≡ true
any_eqb q [] e = e
any_eqb q (x ∷ xs) e =
    elim (x == q) as (λ b. (x == q) ≡ b → (b || list_any (λ y. y == q) xs) ≡ true) [
      | true ↦ λ i. refl
      | false ↦ λ i. any_eqb q xs (sym (ap (λ b. b || list_any (eqb q) xs) (eqb_sym q x ∙ i)) ∙ e)
    ] refl

pub few_once : (count : ℕ) (xs : List ℕ) → repeats xs ≡ false → AllByRecursion (λ p. p ≤ count) xs → length xs ≤ count + 1
few_once count xs once inside =
    length-le_from_distinct_below xs (count + 1) (distinct xs once) (λ q e. let le : q ≤ count = all_at (λ p. p ≤ count) xs q inside (any_eqb q xs e) in omega arith)
