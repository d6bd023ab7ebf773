-- Tests and searches over the functions that wait, flag by flag.
use Rattle.std.proofs.Common.{◌≡◌, ℕ, zero, suc, ◌+◌, ◌<◌, ◌≤◌, Bool, true, false, ◌&&◌, ◌||◌, cond, List, [], ◌∷◌, length, Some, None, refl, ap, ◌∙◌, arith}
use Rattle.std.specs.Prelude.{filter, find, ◌==◌}
use Rattle.std.specs.List.{list_any, range_with_len, slice_index_or}
use Rattle.std.proofs.lemmas.Bool.Decides.{nat_tests}
use Rattle.policy_check.specs.Waiting.{waits}

-- a test of those of some numbers that pass another
any-filter : (q p : ℕ → Bool) (xs : List ℕ) → list_any q (filter p xs) ≡ list_any (λ x. p x && q x) xs
any-filter q p [] = refl
any-filter q p (x ∷ xs) = elim (p x) as (λ b. list_any q (cond b (x ∷ filter p xs) (filter p xs)) ≡ ((b && q x) || list_any (λ x. p x && q x) xs)) [
  | true ↦ ap (λ t. q x || t) (any-filter q p xs)
  | false ↦ any-filter q p xs
]

find-filter : (q p : ℕ → Bool) (xs : List ℕ) → find q (filter p xs) ≡ find (λ x. p x && q x) xs
find-filter q p [] = refl
find-filter q p (x ∷ xs) = elim (p x) as (λ b. find q (cond b (x ∷ filter p xs) (filter p xs)) ≡ cond (b && q x) (Some x) (find (λ x. p x && q x) xs)) [
  | true ↦ ap (λ t. cond (q x) (Some x) t) (find-filter q p xs)
  | false ↦ find-filter q p xs
]

pub range-any : (p : ℕ → Bool) (a n k : ℕ) → a ≤ k → k < a + n → p k ≡ true → list_any p (range_with_len a n) ≡ true
range-any p a zero k l u e = absurd (omega arith)
range-any p a (suc n) k l u e = elim (a == k) as (λ b. (a == k) ≡ b → (p a || list_any p (range_with_len (a + 1) n)) ≡ true) [
  | true ↦ λ t. let same : a ≡ k = grind (arith, nat_tests) in let here : p a ≡ true = rw same e in rw here refl
  | false ↦ λ t. let later : a + 1 ≤ k = grind (arith, nat_tests) in let rest = range-any p (a + 1) n k later (omega arith) e in grind arith
] refl

range-none : (p : ℕ → Bool) (a n : ℕ) → ((k : ℕ) → a ≤ k → k < a + n → p k ≡ false) → list_any p (range_with_len a n) ≡ false
range-none p a zero h = refl
range-none p a (suc n) h =
    let here = h a (omega arith) (omega arith) in
    rw here (range-none p (a + 1) n (λ k l u. h k (omega arith) (omega arith)))

range-find : (p : ℕ → Bool) (a n x : ℕ) → a ≤ x → x < a + n → p x ≡ true → ((k : ℕ) → a ≤ k → k < x → p k ≡ false) → find p (range_with_len a n) ≡ Some x
range-find p a zero x l u e h = absurd (omega arith)
range-find p a (suc n) x l u e h = elim (a == x) as (λ b. (a == x) ≡ b → cond (p a) (Some a) (find p (range_with_len (a + 1) n)) ≡ Some x) [
  | true ↦ λ t. let same : a ≡ x = grind (arith, nat_tests) in let here : p a ≡ true = rw same e in rw here (ap (λ y. Some y) same)
  | false ↦ λ t. let later : a + 1 ≤ x = grind (arith, nat_tests) in let here = h a (omega arith) (omega arith) in rw here (range-find p (a + 1) n x later (omega arith) e (λ k l u. h k (omega arith) u))
] refl

range-find-none : (p : ℕ → Bool) (a n : ℕ) → ((k : ℕ) → a ≤ k → k < a + n → p k ≡ false) → find p (range_with_len a n) ≡ None
range-find-none p a zero h = refl
range-find-none p a (suc n) h =
    let here = h a (omega arith) (omega arith) in
    rw here (range-find-none p (a + 1) n (λ k l u. h k (omega arith) (omega arith)))

-- one that waits passes
pub waits_some : (p : ℕ → Bool) (flags : List Bool) (k : ℕ) → k < length flags → slice_index_or flags k false ≡ true → p k ≡ true → list_any p (waits flags) ≡ true
unfolding waits
waits_some p flags k l f e =
    any-filter p (λ x. slice_index_or flags x false) (range_with_len 0 (length flags)) ∙ range-any (λ x. slice_index_or flags x false && p x) 0 (length flags) k (omega arith) (omega arith) (rw (f, e) refl)

-- none that waits passes
pub waits_none : (p : ℕ → Bool) (flags : List Bool) → ((k : ℕ) → k < length flags → (slice_index_or flags k false && p k) ≡ false) → list_any p (waits flags) ≡ false
unfolding waits
waits_none p flags h =
    any-filter p (λ x. slice_index_or flags x false) (range_with_len 0 (length flags)) ∙ range-none (λ x. slice_index_or flags x false && p x) 0 (length flags) (λ k l u. h k (omega arith))

-- the first that waits and passes
pub waits_first : (p : ℕ → Bool) (flags : List Bool) (x : ℕ) → x < length flags → slice_index_or flags x false ≡ true → p x ≡ true → ((k : ℕ) → k < x → (slice_index_or flags k false && p k) ≡ false) → find p (waits flags) ≡ Some x
unfolding waits
waits_first p flags x l f e h =
    find-filter p (λ x. slice_index_or flags x false) (range_with_len 0 (length flags)) ∙ range-find (λ x. slice_index_or flags x false && p x) 0 (length flags) x (omega arith) (omega arith) (rw (f, e) refl) (λ k l u. h k u)

pub waits_no_first : (p : ℕ → Bool) (flags : List Bool) → ((k : ℕ) → k < length flags → (slice_index_or flags k false && p k) ≡ false) → find p (waits flags) ≡ None
unfolding waits
waits_no_first p flags h =
    find-filter p (λ x. slice_index_or flags x false) (range_with_len 0 (length flags)) ∙ range-find-none (λ x. slice_index_or flags x false && p x) 0 (length flags) (λ k l u. h k (omega arith))
