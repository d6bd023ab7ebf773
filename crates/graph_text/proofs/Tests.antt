-- Tests of the items of a list.
use Rattle.std.proofs.Common.{◌≡◌, ◌≤◌, ◌+◌, ◌∙◌, ℕ, zero, suc, Bool, true, false, ◌&&◌, ◌||◌, not, cond, List, [], ◌∷◌, ◌++◌, Some, sym, ap, refl, arith, subst}
use Rattle.std.specs.Prelude.{◌==◌, count_by, slice_get, flat_map}
use Rattle.std.specs.List.{list_any, AllByRecursion}
use Rattle.std.proofs.lemmas.Bool.{eq-eqb, eqb-true, eqb-false, ne_eqb}
use Rattle.std.proofs.lemmas.List.Sums.{sum_by-cons}

pub or_false : (a b : Bool) → (a || b) ≡ false → (a ≡ false) × (b ≡ false)
or_false true b e = absurd (cc)
or_false false b e = (refl, e)

pub or_none : (a b : Bool) → a ≡ false → b ≡ false → (a || b) ≡ false
or_none a b e f = rw (e, f) refl

pub or_left : (a b : Bool) → a ≡ true → (a || b) ≡ true
or_left a b e = rw e refl

pub or_right : (a b : Bool) → b ≡ true → (a || b) ≡ true
or_right true b e = refl
or_right false b e = e

pub or_assoc : (a b c : Bool) → (a || (b || c)) ≡ ((a || b) || c)
or_assoc true b c = refl
or_assoc false b c = refl

pub and_true : (a b : Bool) → (a && b) ≡ true → (a ≡ true) × (b ≡ true)
and_true true b e = (refl, e)
and_true false b e = absurd (cc)

pub and_both : (a b : Bool) → a ≡ true → b ≡ true → (a && b) ≡ true
and_both a b e f = rw (e, f) refl

pub not_false : (a : Bool) → not a ≡ false → a ≡ true
not_false true e = refl
not_false false e = absurd (cc)

pub not_true : (a : Bool) → not a ≡ true → a ≡ false
not_true true e = absurd (cc)
not_true false e = refl

pub eqb_sym : (p q : ℕ) → (p == q) ≡ (q == p)
eqb_sym p q = elim (p == q) as (λ b. (p == q) ≡ b → b ≡ (q == p)) [
  | true ↦ λ e. sym (eq-eqb q p (sym (eqb-true p q e)))
  | false ↦ λ e. sym (ne_eqb q p (λ h. eqb-false p q e (sym h)))
] refl

-- an item at a place
pub any_at : {A : Type 0} (f : A → Bool) (xs : List A) (i : ℕ) (x : A) → slice_get xs i ≡ Some x → f x ≡ true → list_any f xs ≡ true
any_at f [] i x e h = cc
any_at f (y ∷ ys) zero x e h = let same : y ≡ x = cc in or_left (f y) (list_any f ys) (ap f same ∙ h)
any_at f (y ∷ ys) (suc i) x e h = or_right (f y) (list_any f ys) (any_at f ys i x e h)

pub each_at : {A : Type 0} (P : A → Type 0) (xs : List A) → AllByRecursion P xs → (i : ℕ) (x : A) → slice_get xs i ≡ Some x → P x
each_at P [] h i x e = cc
each_at P (y ∷ ys) h zero x e = let same : y ≡ x = cc in subst P same h.0
each_at P (y ∷ ys) h (suc i) x e = each_at P ys h.1 i x e

-- an item of two lists, and of several
pub any_append : {A : Type 0} (f : A → Bool) (xs ys : List A) → list_any f (xs ++ ys) ≡ (list_any f xs || list_any f ys)
any_append f [] ys = refl
any_append f (x ∷ xs) ys = ap (λ b. f x || b) (any_append f xs ys) ∙ or_assoc (f x) (list_any f xs) (list_any f ys)

pub any_flat : {A B : Type 0} (f : B → Bool) (g : A → List B) (xs : List A) → list_any f (flat_map g xs) ≡ list_any (λ x. list_any f (g x)) xs
any_flat f g [] = refl
any_flat f g (x ∷ xs) = any_append f (g x) (flat_map g xs) ∙ ap (λ b. list_any f (g x) || b) (any_flat f g xs)

pub any_same : {A : Type 0} (f g : A → Bool) (xs : List A) → ((x : A) → f x ≡ g x) → list_any f xs ≡ list_any g xs
any_same f g [] h = refl
any_same f g (x ∷ xs) h = ap (λ b. b || list_any f xs) (h x) ∙ ap (λ b. g x || b) (any_same f g xs h)

pub any_weaker : {A : Type 0} (f g : A → Bool) (xs : List A) → ((x : A) → f x ≡ true → g x ≡ true) → list_any g xs ≡ false → list_any f xs ≡ false
any_weaker f g [] h e = refl
any_weaker f g (x ∷ xs) h e =
    let parts = or_false (g x) (list_any g xs) e in
    elim (f x) as (λ b. f x ≡ b → (b || list_any f xs) ≡ false) [
      | true ↦ λ i. let here : g x ≡ true = h x i in absurd (cc (parts.0))
      | false ↦ λ i. any_weaker f g xs h parts.1
    ] refl

-- what holds for each number in a list holds for all
pub all_from : (P : ℕ → Type 0) (xs : List ℕ) → ((q : ℕ) → list_any (λ x. x == q) xs ≡ true → P q) → AllByRecursion P xs
all_from P [] h = tt
all_from P (x ∷ xs) h =
    (h x (or_left (x == x) (list_any (λ y. y == x) xs) (eq-eqb x x refl)), all_from P xs (λ q i. h q (or_right (x == q) (list_any (λ y. y == q) xs) i)))

pub all_at : (P : ℕ → Type 0) (xs : List ℕ) (q : ℕ) → AllByRecursion P xs → list_any (λ x. x == q) xs ≡ true → P q
all_at P [] q h i = absurd (cc)
all_at P (x ∷ xs) q h i =
    elim (x == q) as (λ b. (x == q) ≡ b → (b || list_any (λ y. y == q) xs) ≡ true → P q) [
      | true ↦ λ e j. subst P (eqb-true x q e) h.0
      | false ↦ λ e j. all_at P xs q h.1 j
    ] refl i

pub all_append : {A : Type 0} (P : A → Type 0) (xs ys : List A) → AllByRecursion P xs → AllByRecursion P ys → AllByRecursion P (xs ++ ys)
all_append P [] ys h k = k
all_append P (x ∷ xs) ys h k = (h.0, all_append P xs ys h.1 k)

-- the number of items that pass
pub one_if : Bool → ℕ
one_if b = cond b 1 0

pub count_cons : {A : Type 0} (f : A → Bool) (x : A) (xs : List A) → count_by f (x ∷ xs) ≡ one_if (f x) + count_by f xs
unfolding one_if
count_cons f x xs = sum_by-cons (λ y. cond (f y) 1 0) x xs

pub one_if_so : (b : Bool) → b ≡ true → one_if b ≡ 1
unfolding one_if
one_if_so b e = rw e refl

pub one_if_not : (b : Bool) → b ≡ false → one_if b ≡ 0
unfolding one_if
one_if_not b e = rw e refl

pub count_none : {A : Type 0} (f : A → Bool) (xs : List A) → list_any f xs ≡ false → count_by f xs ≡ 0
count_none f [] e = refl
count_none f (x ∷ xs) e =
    let parts = or_false (f x) (list_any f xs) e in
    omega (arith, count_cons f x xs, one_if_not (f x) parts.0, count_none f xs parts.1)

pub count_some : {A : Type 0} (f : A → Bool) (xs : List A) → list_any f xs ≡ true → 1 ≤ count_by f xs
count_some f [] e = absurd (cc)
count_some f (x ∷ xs) e =
    elim (f x) as (λ b. f x ≡ b → (b || list_any f xs) ≡ true → 1 ≤ count_by f (x ∷ xs)) [
      | true ↦ λ i j. omega (arith, count_cons f x xs, one_if_so (f x) i)
      | false ↦ λ i j. omega (arith, count_cons f x xs, count_some f xs j)
    ] refl e
