-- Counts and tests over branches.
use Rattle.std.proofs.Common.{◌≡◌, ℕ, ◌+◌, ◌≤◌, Bool, true, false, ◌||◌, cond, List, [], ◌∷◌, ◌++◌, map, refl, ap, ◌∙◌, arith}
use Rattle.std.specs.Prelude.{◌==◌, count_by}
use Rattle.std.specs.List.{list_any, AllByRecursion}
use Rattle.std.proofs.lemmas.Bool.Decides.{nat_tests}
use Rattle.std.proofs.lemmas.List.Sums.{sum_by-cons, sum_by_push}

pub AllByRecursion-weaker : {X : Type 0} (P Q : X → Type 0) → ((x : X) → P x → Q x) → (xs : List X) → AllByRecursion P xs → AllByRecursion Q xs
AllByRecursion-weaker P Q f [] h = tt
AllByRecursion-weaker P Q f (x ∷ xs) h = (f x h.0, AllByRecursion-weaker P Q f xs h.1)

pub AllByRecursion-both : {X : Type 0} (P Q R : X → Type 0) → ((x : X) → P x → Q x → R x) → (xs : List X) → AllByRecursion P xs → AllByRecursion Q xs → AllByRecursion R xs
AllByRecursion-both P Q R f [] h g = tt
AllByRecursion-both P Q R f (x ∷ xs) h g = (f x h.0 g.0, AllByRecursion-both P Q R f xs h.1 g.1)

pub AllByRecursion-push : {X : Type 0} (P : X → Type 0) (xs : List X) (y : X) → AllByRecursion P xs → P y → AllByRecursion P (xs ++ y ∷ [])
AllByRecursion-push P [] y h p = (p, tt)
AllByRecursion-push P (x ∷ xs) y h p = (h.0, AllByRecursion-push P xs y h.1 p)

pub AllByRecursion-map : {X Y : Type 0} (P : Y → Type 0) (f : X → Y) (xs : List X) → AllByRecursion (λ x. P (f x)) xs → AllByRecursion P (map f xs)
AllByRecursion-map P f [] h = tt
AllByRecursion-map P f (x ∷ xs) h = (h.0, AllByRecursion-map P f xs h.1)

-- 1 if a test passes
abbrev pub one_if : Bool → ℕ
one_if b = cond b 1 0

pub count-cons : {X : Type 0} (p : X → Bool) (x : X) (xs : List X) → count_by p (x ∷ xs) ≡ one_if (p x) + count_by p xs
count-cons p x xs = sum_by-cons (λ y. one_if (p y)) x xs

pub count-push : {X : Type 0} (p : X → Bool) (xs : List X) (y : X) → count_by p (xs ++ y ∷ []) ≡ count_by p xs + one_if (p y)
count-push p xs y = sum_by_push (λ y. one_if (p y)) xs y

pub count-none : {X : Type 0} (p : X → Bool) (xs : List X) → AllByRecursion (λ x. p x ≡ false) xs → count_by p xs ≡ 0
count-none p [] h = refl
count-none p (x ∷ xs) h =
    let rest = count-none p xs h.1 in
    let here : one_if (p x) ≡ 0 = ap one_if h.0 in
    omega (arith, count-cons p x xs, rest, here)

-- a stronger test passes fewer
pub count-le : {X : Type 0} (p q : X → Bool) → ((x : X) → p x ≡ true → q x ≡ true) → (xs : List X) → count_by p xs ≤ count_by q xs
count-le p q f [] = omega arith
count-le p q f (x ∷ xs) =
    let rest = count-le p q f xs in
    let here : one_if (p x) ≤ one_if (q x) = one_if-le (p x) (q x) (f x) in
    omega (arith, count-cons p x xs, count-cons q x xs, rest, here)
  where
    one_if-le : (a b : Bool) → (a ≡ true → b ≡ true) → one_if a ≤ one_if b
    one_if-le false b f = omega arith
    one_if-le true b f = let e : b ≡ true = f refl in rw e (omega arith)

-- tests that agree, before and after a change of each
pub count-map : {X Y : Type 0} (p : Y → Bool) (f : X → Y) (q : X → Bool) (xs : List X) → AllByRecursion (λ x. p (f x) ≡ q x) xs → count_by p (map f xs) ≡ count_by q xs
count-map p f q [] h = refl
count-map p f q (x ∷ xs) h =
    let rest = count-map p f q xs h.1 in
    let here : one_if (p (f x)) ≡ one_if (q x) = ap one_if h.0 in
    omega (arith, count-cons p (f x) (map f xs), count-cons q x xs, rest, here)

pub any-push : {X : Type 0} (p : X → Bool) (xs : List X) (y : X) → list_any p (xs ++ y ∷ []) ≡ (list_any p xs || p y)
any-push p [] y = or_none (p y)
  where
    or_none : (a : Bool) → (a || false) ≡ a
    or_none true = refl
    or_none false = refl
any-push p (x ∷ xs) y = ap (λ (b : Bool). p x || b) (any-push p xs y) ∙ or_assoc (p x) (list_any p xs) (p y)
  where
    or_assoc : (a b c : Bool) → (a || (b || c)) ≡ ((a || b) || c)
    or_assoc true b c = refl
    or_assoc false b c = refl

-- one of them passes
pub any-at : (p : ℕ → Bool) (xs : List ℕ) (q : ℕ) → list_any (λ x. x == q) xs ≡ true → p q ≡ true → list_any p xs ≡ true
any-at p [] q i h = cc
any-at p (x ∷ xs) q i h =
    elim (x == q) as (λ b. (x == q) ≡ b → (b || list_any (λ x. x == q) xs) ≡ true → (p x || list_any p xs) ≡ true) [
      | true ↦ λ e j. let same : x ≡ q = grind (arith, nat_tests) in rw (same, h) refl
      | false ↦ λ e j. let rest = any-at p xs q j h in grind arith
    ] refl i
