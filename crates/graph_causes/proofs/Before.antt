-- The functions of branches that come before a position of the chain.
use Rattle.std.proofs.Common.{◌≡◌, ℕ, zero, suc, ◌+◌, ◌<◌, ◌≤◌, Bool, true, false, cond, List, [], ◌∷◌, ◌++◌, length, map, take, refl, arith, Some}
use Rattle.std.specs.Prelude.{◌==◌, nat_lt, slice_get}
use Rattle.std.specs.List.{list_any, AllByRecursion}
use Rattle.std.proofs.lemmas.Bool.Decides.{nat_tests}
use Rattle.graph_compile.specs.Facts.{rises}
use Rattle.graph_compile.specs.Lawful.{Rises, EndsBelow}
use Rattle.graph_compile.specs.declared.graph.Branch.{Branch}
use Rattle.graph_causes.specs.Causes.{first_of}

-- the front of a list, as long as its positions are below one
abbrev pub before : ℕ → List ℕ → List ℕ
before p [] = []
before p (q ∷ qs) = cond (nat_lt q p) (q ∷ before p qs) []

-- a branch of these positions, if there are any, and others
abbrev pub with_branch : List ℕ → List Branch → List Branch
with_branch [] bs = bs
with_branch (q ∷ qs) bs = record { positions = q ∷ qs } ∷ bs

-- branches as far as their positions are below one
abbrev pub up_to : ℕ → List Branch → List Branch
up_to p [] = []
up_to p (b ∷ bs) = with_branch (before p b.positions) (up_to p bs)

pub before-other : (p : ℕ) (qs : List ℕ) → list_any (λ x. x == p) qs ≡ false → before (p + 1) qs ≡ before p qs
before-other p [] h = refl
before-other p (q ∷ qs) h =
    elim (nat_lt q p) as (λ t. nat_lt q p ≡ t → before (p + 1) (q ∷ qs) ≡ cond t (q ∷ before p qs) []) [
      | true ↦ λ e.
          let more : nat_lt q (p + 1) ≡ true = grind (arith, nat_tests) in
          let rest : before (p + 1) qs ≡ before p qs = before-other p qs (grind arith) in
          rw (more, rest) refl
      | false ↦ λ e.
          let more : nat_lt q (p + 1) ≡ false = grind (arith, nat_tests) in
          rw more refl
    ] refl

pub before-high : (p low : ℕ) (qs : List ℕ) → rises low qs ≡ true → p ≤ low → before p qs ≡ []
before-high p low [] r l = refl
before-high p low (q ∷ qs) r l = let more : nat_lt q p ≡ false = grind (arith, nat_tests) in rw more refl

pub rises-at : (low k p : ℕ) (qs : List ℕ) → rises low qs ≡ true → slice_get qs k ≡ Some p → low ≤ p
rises-at low k p [] r e = cc
rises-at low zero p (q ∷ qs) r e = let same : q ≡ p = cc in grind (arith, nat_tests)
rises-at low (suc k) p (q ∷ qs) r e =
    let rest = rises-at (suc q) k p qs (grind arith) e in
    grind (arith, nat_tests)

-- positions that rise, before one of them and up to it
pub before-place : (low k p : ℕ) (qs : List ℕ) → rises low qs ≡ true → slice_get qs k ≡ Some p → (before p qs ≡ take k qs) × (before (p + 1) qs ≡ take k qs ++ p ∷ [])
before-place low k p [] r e = cc
before-place low zero p (q ∷ qs) r e =
    let same : q ≡ p = cc in
    let less : nat_lt q p ≡ false = grind (arith, nat_tests) in
    let more : nat_lt q (p + 1) ≡ true = grind (arith, nat_tests) in
    let after : before (p + 1) qs ≡ [] = before-high (p + 1) (suc q) qs (grind arith) (omega (arith, same)) in
    (rw less refl, rw (more, after, same) refl)
before-place low (suc k) p (q ∷ qs) r e =
    let later : suc q ≤ p = rises-at (suc q) k p qs (grind arith) e in
    let less : nat_lt q p ≡ true = grind (arith, nat_tests) in
    let more : nat_lt q (p + 1) ≡ true = grind (arith, nat_tests) in
    let rest = before-place (suc q) k p qs (grind arith) e in
    (rw (less, rest.0) refl, rw (more, rest.1) refl)

pub before-all : (p : ℕ) (qs : List ℕ) → ((q : ℕ) → list_any (λ x. x == q) qs ≡ true → q < p) → before p qs ≡ qs
before-all p [] h = refl
before-all p (q ∷ qs) h =
    let here : (q == q) ≡ true = grind (arith, nat_tests) in
    let low : q < p = h q (grind arith) in
    let less : nat_lt q p ≡ true = grind (arith, nat_tests) in
    let rest : before p qs ≡ qs = before-all p qs (λ r i. h r (grind arith)) in
    rw (less, rest) refl

-- what tests false for each position below one, tests false for all of them
pub before-none : (p : ℕ) (f : ℕ → Bool) (qs : List ℕ) → ((q : ℕ) → list_any (λ x. x == q) qs ≡ true → q < p → f q ≡ false) → list_any f (before p qs) ≡ false
before-none p f [] h = refl
before-none p f (q ∷ qs) h =
    elim (nat_lt q p) as (λ t. nat_lt q p ≡ t → list_any f (cond t (q ∷ before p qs) []) ≡ false) [
      | true ↦ λ e.
          let here : (q == q) ≡ true = grind (arith, nat_tests) in
          let low : q < p = grind (arith, nat_tests) in
          let first : f q ≡ false = h q (grind arith) low in
          let rest : list_any f (before p qs) ≡ false = before-none p f qs (λ r i l. h r (grind arith) l) in
          grind arith
      | false ↦ λ e. refl
    ] refl

-- a branch that begins later isn't there yet
pub late : (p : ℕ) (b : Branch) → p ≤ first_of b → before p b.positions ≡ []
late p b l = late-list b.positions l
  where
    late-list : (qs : List ℕ) → p ≤ first_of (record { positions = qs }) → before p qs ≡ []
    late-list [] l = refl
    late-list (q ∷ qs) l = let more : nat_lt q p ≡ false = grind (arith, nat_tests) in rw more refl

pub all-late : (p low : ℕ) (bs : List Branch) → p ≤ low → rises low (map first_of bs) ≡ true → up_to p bs ≡ []
all-late p low [] l r = refl
all-late p low (b ∷ bs) l r =
    let from : low ≤ first_of b = grind (arith, nat_tests) in
    let here : before p b.positions ≡ [] = late p b (omega (arith, from, l)) in
    let rest : up_to p bs ≡ [] = all-late p (suc (first_of b)) bs (omega (arith, from, l)) (grind arith) in
    rw (here, rest) refl

-- no branch of a stage is there before its first position, and all are at its end
pub up_to-start : (first : ℕ) (bs : List Branch) → AllByRecursion (Rises first) bs → up_to first bs ≡ []
up_to-start first [] h = refl
up_to-start first (b ∷ bs) h =
    let here : before first b.positions ≡ [] = before-high first first b.positions h.0.rises (omega arith) in
    let rest : up_to first bs ≡ [] = up_to-start first bs h.1 in
    rw (here, rest) refl

pub record HasSome (b : Branch) : Type 0 where
  pub some : 0 < length b.positions

with_branch-whole : (qs : List ℕ) (bs : List Branch) → 0 < length qs → with_branch qs bs ≡ record { positions = qs } ∷ bs
with_branch-whole [] bs l = absurd (omega arith)
with_branch-whole (q ∷ qs) bs l = refl

pub up_to-end : (next : ℕ) (bs : List Branch) → AllByRecursion (EndsBelow next) bs → AllByRecursion HasSome bs → up_to next bs ≡ bs
up_to-end next [] h g = refl
up_to-end next (b ∷ bs) h g =
    let here : before next b.positions ≡ b.positions = before-all next b.positions h.0.below in
    let rest : up_to next bs ≡ bs = up_to-end next bs h.1 g.1 in
    rw (here, rest) (with_branch-whole b.positions bs g.0.some)
