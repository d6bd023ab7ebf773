-- The first item that passes a test, and items that all fail it.
use Rattle.std.proofs.Common.{◌≡◌, ◌∙◌, ◌<◌, ◌≤◌, ◌+◌, ℕ, zero, suc, Bool, true, false, List, [], ◌∷◌, map, drop, sym, ap, refl, get_or, length, arith}
use Rattle.std.specs.Prelude.{if◌then◌else◌, count_by, position, Some, None, ◌||◌, nat_lt}
use Rattle.std.specs.List.{list_any, position_or_len}
use Rattle.std.proofs.lemmas.Bool.{false≢true}
use Rattle.std.proofs.lemmas.List.Sums.{sum_by-cons, fails_before_first}
use Rattle.std.proofs.lemmas.Bool.Decides.{nat_tests}
use Rattle.std.proofs.lemmas.List.Quantifiers.{position-Some}

-- no item passes
abbrev pub NoneOf : {A : Type 0} → (A → Bool) → List A → Type 0
NoneOf p [] = Unit {0}
NoneOf p (x ∷ xs) = (p x ≡ false) × NoneOf p xs

-- the first item that passes is at this index
abbrev pub IsFirst : {A : Type 0} → (A → Bool) → ℕ → List A → Type 0
IsFirst p k [] = ⊥
IsFirst p zero (x ∷ xs) = p x ≡ true
IsFirst p (suc k) (x ∷ xs) = (p x ≡ false) × IsFirst p k xs

first_from : {A : Type 0} (p : A → Bool) (xs : List A) (i : ℕ) (d : A) → i < length xs → p (get_or xs i d) ≡ true → ((k : ℕ) → k < i → p (get_or xs k d) ≡ false) → IsFirst p i xs
first_from p [] i d below here before = absurd (omega arith)
first_from p (x ∷ xs) zero d below here before = here
first_from p (x ∷ xs) (suc i) d below here before = (before 0 (omega arith), first_from p xs i d (omega arith) here (λ k lt. before (suc k) (omega arith)))

pub first-position : {A : Type 0} (p : A → Bool) (xs : List A) (i : ℕ) (d : A) → position p xs ≡ Some i → IsFirst p i xs
first-position p xs i d is = let f = position-Some p xs i d is in first_from p xs i d f.0 f.1 f.2

pub first-map : {A B : Type 0} (p : B → Bool) (f : A → B) (xs : List A) (i : ℕ) → IsFirst p i (map f xs) → IsFirst (λ x. p (f x)) i xs
first-map p f [] i first = first
first-map p f (x ∷ xs) zero first = first
first-map p f (x ∷ xs) (suc i) first = (first.0, first-map p f xs i first.1)

pub none-map : {A B : Type 0} (p : B → Bool) (f : A → B) (xs : List A) → NoneOf p (map f xs) → NoneOf (λ x. p (f x)) xs
none-map p f [] none = tt
none-map p f (x ∷ xs) none = (none.0, none-map p f xs none.1)

neither : (a b : Bool) → (a || b) ≡ false → (a ≡ false) × (b ≡ false)
neither true b e = absurd (false≢true (sym e))
neither false b e = (refl, e)

pub none-any : {A : Type 0} (p : A → Bool) (xs : List A) → list_any p xs ≡ false → NoneOf p xs
none-any p [] none = tt
none-any p (x ∷ xs) none = let n = neither (p x) (list_any p xs) none in (n.0, none-any p xs n.1)

pub count-cons : {A : Type 0} (p : A → Bool) (x : A) (xs : List A) → count_by p (x ∷ xs) ≡ (if p x then 1 else 0) + count_by p xs
count-cons p x xs = sum_by-cons (λ y. if p y then 1 else 0) x xs

pub count-map : {A B : Type 0} (p : B → Bool) (f : A → B) (xs : List A) → count_by p (map f xs) ≡ count_by (λ x. p (f x)) xs
count-map p f [] = refl
count-map p f (x ∷ xs) = count-cons p (f x) (map f xs) ∙ (ap (λ (n : ℕ). (if p (f x) then 1 else 0) + n) (count-map p f xs) ∙ sym (count-cons (λ y. p (f y)) x xs))

abbrev one_if : Bool → ℕ
one_if b = if b then 1 else 0

if_is : (b c : Bool) → b ≡ c → one_if b ≡ one_if c
if_is b c e = ap one_if e

pub count-none : {A : Type 0} (p : A → Bool) (xs : List A) → NoneOf p xs → count_by p xs ≡ 0
count-none p [] none = refl
count-none p (x ∷ xs) none = let rest = count-none p xs none.1 in let here = if_is (p x) false none.0 in let e = count-cons p x xs in omega arith

none_by : (b : Bool) (n : ℕ) → (if b then 1 else 0) + n ≡ 0 → (b ≡ false) × (n ≡ 0)
none_by true n e = absurd (omega arith)
none_by false n e = (refl, omega arith)

pub none-count : {A : Type 0} (p : A → Bool) (xs : List A) → count_by p xs ≡ 0 → NoneOf p xs
none-count p [] none = tt
none-count p (x ∷ xs) none = let n = none_by (p x) (count_by p xs) (sym (count-cons p x xs) ∙ none) in (n.0, none-count p xs n.1)

-- after the first that passes there is one fewer
pub count-first : {A : Type 0} (p : A → Bool) (xs : List A) (i : ℕ) → IsFirst p i xs → count_by p xs ≡ 1 + count_by p (drop (suc i) xs)
count-first p [] i first = absurd first
count-first p (x ∷ xs) zero first = let here = if_is (p x) true first in let e = count-cons p x xs in omega arith
count-first p (x ∷ xs) (suc i) first =
    let rest = count-first p xs i first.1 in
    let here = if_is (p x) false first.0 in
    let e = count-cons p x xs in
    omega arith

pub first_below : {A : Type 0} (p : A → Bool) (xs : List A) (i : ℕ) → IsFirst p i xs → i < length xs
first_below p [] i first = absurd first
first_below p (x ∷ xs) zero first = omega arith
first_below p (x ∷ xs) (suc i) first = let b = first_below p xs i first.1 in omega arith

one_by : (a : Bool) (n : ℕ) → (if a then 1 else 0) + n ≡ 1 → 1 ≤ n → a ≡ false
one_by true n e le = absurd (omega arith)
one_by false n e le = refl

one_rest : (a : Bool) (n : ℕ) → (if a then 1 else 0) + n ≡ 1 → a ≡ true → n ≡ 0
one_rest true n e is = omega arith
one_rest false n e is = absurd (false≢true is)

-- a stronger test passes no fewer
pub count-weaker : {A : Type 0} (p q : A → Bool) → ((x : A) → p x ≡ true → q x ≡ true) → (xs : List A) → count_by p xs ≤ count_by q xs
count-weaker p q weaker [] = omega arith
count-weaker p q weaker (x ∷ xs) =
    let rest = count-weaker p q weaker xs in
    let here = le (p x) (q x) (weaker x) in
    let e = count-cons p x xs in
    let f = count-cons q x xs in
    omega arith
  where
    le : (a b : Bool) → (a ≡ true → b ≡ true) → (if a then 1 else 0) ≤ (if b then 1 else 0)
    le false b f = omega arith
    le true true f = omega arith
    le true false f = absurd (false≢true (f refl))

-- if exactly one item touches and the first that passes touches, no other touches
pub alone : {A : Type 0} (p q r : A → Bool) → ((x : A) → p x ≡ true → q x ≡ true) → ((x : A) → p x ≡ true → r x ≡ false) → ((x : A) → q x ≡ false → r x ≡ false) → (xs : List A) (i : ℕ) → IsFirst p i xs → count_by q xs ≡ 1 → NoneOf r xs
alone {A = A} p q r touch own other [] i first one = absurd first
alone {A = A} p q r touch own other (x ∷ xs) zero first one =
    let rest : count_by q xs ≡ 0 = one_rest (q x) (count_by q xs) (sym (count-cons q x xs) ∙ one) (touch x first) in
    (own x first, weaken xs (none-count q xs rest))
  where
    weaken : (ys : List A) → NoneOf q ys → NoneOf r ys
    weaken [] none = tt
    weaken (y ∷ ys) none = (other y none.0, weaken ys none.1)
alone {A = A} p q r touch own other (x ∷ xs) (suc i) first one =
    let some = count-first p xs i first.1 in
    let more = count-weaker p q touch xs in
    let here : q x ≡ false = one_by (q x) (count_by q xs) (sym (count-cons q x xs) ∙ one) (omega arith) in
    let rest : count_by q xs ≡ 1 = let e = count-cons q x xs in let h = if_is (q x) false here in omega arith in
    (other x here, alone p q r touch own other xs i first.1 rest)

not_below : (a b : ℕ) → nat_lt a b ≡ false → b ≤ a
not_below a b e = grind (arith, nat_tests)

none_from : {A : Type 0} (p : A → Bool) (xs : List A) → ((k : ℕ) (d : A) → k < length xs → p (get_or xs k d) ≡ false) → NoneOf p xs
none_from p [] fails = tt
none_from p (x ∷ xs) fails = (fails 0 x (omega arith), none_from p xs (λ k d lt. fails (suc k) d (omega arith)))

-- no item passes if none is found
pub none-position : {A : Type 0} (p : A → Bool) (xs : List A) → position p xs ≡ None → NoneOf p xs
none-position p xs none = by_test (nat_lt (position_or_len p xs) (length xs)) refl none
  where
    by_test : (b : Bool) → nat_lt (position_or_len p xs) (length xs) ≡ b → (if b then Some (position_or_len p xs) else None) ≡ None → NoneOf p xs
    by_test true e some = absurd (cc)
    by_test false e some = let past = not_below (position_or_len p xs) (length xs) e in none_from p xs (λ k d lt. fails_before_first p xs k d (omega arith))

pub any-none : {A : Type 0} (p : A → Bool) (xs : List A) → NoneOf p xs → list_any p xs ≡ false
any-none p [] none = refl
any-none p (x ∷ xs) none = ap (λ (b : Bool). b || list_any p xs) none.0 ∙ any-none p xs none.1
