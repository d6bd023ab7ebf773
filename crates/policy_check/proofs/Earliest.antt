-- A cycle that is listed from its earliest function.
use Rattle.std.proofs.Common.{◌≡◌, ◌≢◌, ℕ, suc, ◌+◌, ◌<◌, ◌≤◌, Bool, true, false, ◌||◌, not, cond, List, [], ◌∷◌, ◌++◌, length, take, drop, get_or, nat_le, nat_lt, refl, sym, subst, arith, drop-cons}
use Rattle.std.specs.Prelude.{◌==◌, All}
use Rattle.std.specs.List.{list_any, list_all, AllByRecursion, position_or_len}
use Rattle.std.proofs.lemmas.Bool.Decides.{nat_tests}
use Rattle.std.proofs.lemmas.List.Elements.{All-from_recursion, All-append, All-take, All-drop}
use Rattle.std.proofs.lemmas.List.Sums.{passes_at_first}
use Rattle.policy_check.specs.Arrangements.{IsEarliestFirst}
use Rattle.policy_check.specs.Cycles.{earliest_place, from_earliest}
use Rattle.policy_check.proofs.Arranging.{any-inside}
use Rattle.policy_check.proofs.Inside.{inside}

all-lower : (a b : ℕ) (xs : List ℕ) → a ≤ b → list_all (λ y. nat_le b y) xs ≡ true → list_all (λ y. nat_le a y) xs ≡ true
all-lower a b [] l h = refl
all-lower a b (x ∷ xs) l h =
    let here : nat_le b x ≡ true = grind arith in
    let rest : list_all (λ y. nat_le b y) xs ≡ true = grind arith in
    let more = all-lower a b xs l rest in
    let lower : nat_le a x ≡ true = grind (arith, nat_tests) in
    rw lower more

-- some number in a list is at most each of them
least : (x : ℕ) (xs : List ℕ) → (m : ℕ) × (inside m (x ∷ xs) ≡ true) × (list_all (λ y. nat_le m y) (x ∷ xs) ≡ true)
least x [] = (x, grind (arith, nat_tests), grind (arith, nat_tests))
least x (y ∷ ys) =
    let rest = least y ys in
    elim (nat_le x rest.0) as (λ b. nat_le x rest.0 ≡ b → (m : ℕ) × (inside m (x ∷ y ∷ ys) ≡ true) × (list_all (λ z. nat_le m z) (x ∷ y ∷ ys) ≡ true)) [
      | true ↦ λ t.
          let below : x ≤ rest.0 = grind (arith, nat_tests) in
          let lower = all-lower x rest.0 (y ∷ ys) below rest.2 in
          let self : (x == x) ≡ true = grind (arith, nat_tests) in
          let itself : nat_le x x ≡ true = grind (arith, nat_tests) in
          (x, rw self refl, rw itself lower)
      | false ↦ λ t.
          let above : nat_le rest.0 x ≡ true = grind (arith, nat_tests) in
          let there : inside rest.0 (y ∷ ys) ≡ true = rest.1 in
          (rest.0, rw there (grind arith), rw above rest.2)
    ] refl

some-place : (p : ℕ → Bool) (xs : List ℕ) → list_any p xs ≡ true → position_or_len p xs < length xs
some-place p [] e = cc
some-place p (x ∷ xs) e =
    elim (p x) as (λ b. (b || list_any p xs) ≡ true → position_or_len_at b < suc (length xs)) [ true ↦ λ f. omega arith | false ↦ λ f. let rest = some-place p xs f in omega arith ] e
  where
    position_or_len_at : Bool → ℕ
    position_or_len_at b = cond (not b) (1 + position_or_len p xs) 0

all-from : (x : ℕ) (xs : List ℕ) → list_all (λ y. nat_le x y) xs ≡ true → AllByRecursion (λ y. x ≤ y) xs
all-from x [] h = tt
all-from x (y ∷ ys) h =
    let here : nat_le x y ≡ true = grind arith in
    let rest : list_all (λ y. nat_le x y) ys ≡ true = grind arith in
    (grind (arith, nat_tests), all-from x ys rest)

pub from_earliest-first : (cycle : List ℕ) → cycle ≢ [] → IsEarliestFirst (from_earliest cycle)
unfolding from_earliest
from_earliest-first [] some = absurd (some refl)
from_earliest-first (x ∷ xs) some =
    let cycle = x ∷ xs in
    let is_least : ℕ → Bool = λ z. list_all (λ y. nat_le z y) cycle in
    let found = least x xs in
    let place = some-place is_least cycle (any-inside is_least cycle found.0 found.1 found.2) in
    let test : nat_lt (position_or_len is_least cycle) (length cycle) ≡ true = grind (arith, nat_tests) in
    let at : earliest_place cycle ≡ position_or_len is_least cycle = rw test refl in
    let k = position_or_len is_least cycle in
    let first = get_or cycle k 0 in
    let all : All (λ y. first ≤ y) cycle = All-from_recursion (λ y. first ≤ y) cycle (all-from first cycle (passes_at_first is_least cycle 0 place)) in
    let listed : drop k cycle ++ take k cycle ≡ first ∷ (drop (suc k) cycle ++ take k cycle) = rw (drop-cons cycle k 0 place) refl in
    let P : List ℕ → Type 0 = IsEarliestFirst in
    rw at (subst P (sym listed) (All-append (λ y. first ≤ y) (drop (suc k) cycle) (take k cycle) (All-drop (λ y. first ≤ y) (suc k) cycle all) (All-take (λ y. first ≤ y) k cycle all)))
