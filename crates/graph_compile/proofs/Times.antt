-- How often a position occurs.
use Rattle.std.proofs.Common.{◌≡◌, ◌≢◌, ℕ, zero, suc, ◌+◌, ◌<◌, ◌≤◌, Bool, true, false, ◌&&◌, ◌||◌, not, cond, List, [], ◌∷◌, ◌++◌, length, refl, sym, ap, ◌∙◌, subst, arith}
use Rattle.std.specs.Prelude.{◌==◌, nat_le, nat_lt, count_by, filter}
use Rattle.std.specs.List.{list_any, AllByRecursion}
use Rattle.std.proofs.lemmas.Bool.Decides.{nat_tests}
use Rattle.std.proofs.lemmas.List.Sums.{sum_by-append}
use Rattle.graph_compile.specs.declared.graph.Branch.{Branch}
use Rattle.graph_compile.specs.Facts.{times, rises, positions_of}
use Rattle.graph_compile.specs.Positions.{holds}
use Rattle.graph_compile.proofs.Counting.{one_if, count-cons}

-- 1 if a number is within bounds, the first of them included
abbrev pub inside : ℕ → ℕ → ℕ → ℕ
inside low high q = one_if (nat_le low q && nat_lt q high)

pub inside-yes : (low high q : ℕ) → low ≤ q → q < high → inside low high q ≡ 1
inside-yes low high q l h =
    let a : nat_le low q ≡ true = grind (arith, nat_tests) in
    let b : nat_lt q high ≡ true = grind (arith, nat_tests) in
    rw (a, b) refl

pub inside-low : (low high q : ℕ) → q < low → inside low high q ≡ 0
inside-low low high q l = let a : nat_le low q ≡ false = grind (arith, nat_tests) in rw a refl

pub inside-high : (low high q : ℕ) → high ≤ q → inside low high q ≡ 0
inside-high low high q h = outside (nat_le low q) (nat_lt q high) (grind (arith, nat_tests))
  where
    outside : (a b : Bool) → b ≡ false → one_if (a && b) ≡ 0
    outside true b e = rw e refl
    outside false b e = refl

pub inside-cases : (low high q : ℕ) → inside low high q ≢ 0 → (low ≤ q) × (q < high)
inside-cases low high q n =
    elim (nat_le low q) as (λ a. nat_le low q ≡ a → (low ≤ q) × (q < high)) [
      | true ↦ λ e. elim (nat_lt q high) as (λ b. nat_lt q high ≡ b → (low ≤ q) × (q < high)) [
        | true ↦ λ f. (grind (arith, nat_tests), grind (arith, nat_tests))
        | false ↦ λ f. absurd (n (inside-high low high q (grind (arith, nat_tests))))
      ] refl
      | false ↦ λ e. absurd (n (inside-low low high q (grind (arith, nat_tests))))
    ] refl

-- two ranges that meet
pub inside-both : (low mid high q : ℕ) → low ≤ mid → mid ≤ high → inside low mid q + inside mid high q ≡ inside low high q
inside-both low mid high q l h =
    elim (nat_lt q low) as (λ a. nat_lt q low ≡ a → inside low mid q + inside mid high q ≡ inside low high q) [
      | true ↦ λ e.
          let less : q < low = grind (arith, nat_tests) in
          omega (arith, inside-low low mid q less, inside-low mid high q (omega arith), inside-low low high q less)
      | false ↦ λ e.
          let more : low ≤ q = grind (arith, nat_tests) in
          elim (nat_lt q mid) as (λ a. nat_lt q mid ≡ a → inside low mid q + inside mid high q ≡ inside low high q) [
            | true ↦ λ f. let less : q < mid = grind (arith, nat_tests) in omega (arith, inside-yes low mid q more less, inside-low mid high q less, inside-yes low high q more (omega arith))
            | false ↦ λ f.
                let above : mid ≤ q = grind (arith, nat_tests) in
                elim (nat_lt q high) as (λ a. nat_lt q high ≡ a → inside low mid q + inside mid high q ≡ inside low high q) [
                  | true ↦ λ g. let less : q < high = grind (arith, nat_tests) in omega (arith, inside-high low mid q above, inside-yes mid high q above less, inside-yes low high q more less)
                  | false ↦ λ g. let out : high ≤ q = grind (arith, nat_tests) in omega (arith, inside-high low mid q above, inside-high mid high q out, inside-high low high q out)
                ] refl
          ] refl
    ] refl

pub times-cons : (q x : ℕ) (xs : List ℕ) → times q (x ∷ xs) ≡ one_if (x == q) + times q xs
times-cons q x xs = count-cons (λ y. y == q) x xs

pub times-append : (q : ℕ) (xs ys : List ℕ) → times q (xs ++ ys) ≡ times q xs + times q ys
times-append q xs ys = sum_by-append (λ x. one_if (x == q)) xs ys

-- positions that rise occur once, and none below the least
pub times-rising_low : (q low : ℕ) (xs : List ℕ) → rises low xs ≡ true → q < low → times q xs ≡ 0
times-rising_low q low [] h l = refl
times-rising_low q low (x ∷ xs) h l =
    let more : low ≤ x = grind (arith, nat_tests) in
    let other : (x == q) ≡ false = grind (arith, nat_tests) in
    let here : one_if (x == q) ≡ 0 = ap one_if other in
    let rest = times-rising_low q (suc x) xs (grind arith) (omega arith) in
    omega (arith, times-cons q x xs, here, rest)

pub times-rising : (q low : ℕ) (xs : List ℕ) → rises low xs ≡ true → times q xs ≡ one_if (list_any (λ x. x == q) xs)
times-rising q low [] h = refl
times-rising q low (x ∷ xs) h =
    elim (x == q) as (λ b. (x == q) ≡ b → times q (x ∷ xs) ≡ one_if (b || list_any (λ x. x == q) xs)) [
      | true ↦ λ e.
          let same : x ≡ q = grind (arith, nat_tests) in
          let here : one_if (x == q) ≡ 1 = ap one_if e in
          let rest = times-rising_low q (suc x) xs (grind arith) (omega arith) in
          omega (arith, times-cons q x xs, here, rest)
      | false ↦ λ e.
          let here : one_if (x == q) ≡ 0 = ap one_if e in
          let rest = times-rising q (suc x) xs (grind arith) in
          omega (arith, times-cons q x xs, here, rest)
    ] refl

pub record RisesFrom (b : Branch) : Type 0 where
  pub low : ℕ
  pub rise : rises low b.positions ≡ true

-- in a stage whose branches rise
pub times-stage : (q : ℕ) (bs : List Branch) → AllByRecursion RisesFrom bs → times q (positions_of bs) ≡ count_by (holds q) bs
times-stage q [] h = refl
times-stage q (b ∷ bs) h =
    let rest = times-stage q bs h.1 in
    let here = times-rising q h.0.low b.positions h.0.rise in
    omega (arith, times-append q b.positions (positions_of bs), count-cons (holds q) b bs, here, rest)

-- without one number
abbrev pub without : ℕ → List ℕ → List ℕ
without a xs = filter (λ x. not (x == a)) xs

length-without : (a : ℕ) (xs : List ℕ) → length (without a xs) + times a xs ≡ length xs
length-without a [] = refl
length-without a (x ∷ xs) =
    let rest = length-without a xs in
    elim (x == a) as (λ b. (x == a) ≡ b → length (cond (not b) (x ∷ without a xs) (without a xs)) + times a (x ∷ xs) ≡ suc (length xs)) [
      | true ↦ λ e. let here : one_if (x == a) ≡ 1 = ap one_if e in omega (arith, times-cons a x xs, here, rest)
      | false ↦ λ e. let here : one_if (x == a) ≡ 0 = ap one_if e in omega (arith, times-cons a x xs, here, rest)
    ] refl

times-without_same : (a : ℕ) (xs : List ℕ) → times a (without a xs) ≡ 0
times-without_same a [] = refl
times-without_same a (x ∷ xs) =
    let rest = times-without_same a xs in
    elim (x == a) as (λ b. (x == a) ≡ b → times a (cond (not b) (x ∷ without a xs) (without a xs)) ≡ 0) [
      | true ↦ λ e. rest
      | false ↦ λ e. let here : one_if (x == a) ≡ 0 = ap one_if e in omega (arith, times-cons a x (without a xs), here, rest)
    ] refl

times-without_other : (a q : ℕ) (xs : List ℕ) → q ≢ a → times q (without a xs) ≡ times q xs
times-without_other a q [] n = refl
times-without_other a q (x ∷ xs) n =
    let rest = times-without_other a q xs n in
    elim (x == a) as (λ b. (x == a) ≡ b → times q (cond (not b) (x ∷ without a xs) (without a xs)) ≡ times q (x ∷ xs)) [
      | true ↦ λ e.
          let same : x ≡ a = grind (arith, nat_tests) in
          let other : (x == q) ≡ false = grind (arith, nat_tests) in
          let here : one_if (x == q) ≡ 0 = ap one_if other in
          omega (arith, times-cons q x xs, here, rest)
      | false ↦ λ e. omega (arith, times-cons q x xs, times-cons q x (without a xs), rest)
    ] refl

none-empty : (xs : List ℕ) → ((q : ℕ) → times q xs ≡ 0) → xs ≡ []
none-empty [] h = refl
none-empty (x ∷ xs) h =
    let same : (x == x) ≡ true = grind (arith, nat_tests) in
    let here : one_if (x == x) ≡ 1 = ap one_if same in
    let none = h x in
    absurd (omega (arith, times-cons x x xs, here, none))

-- each number of a range occurs once, in one of two lists, and those of the first are below those of the second
pub record IsParted (low high : ℕ) (xs ys : List ℕ) : Type 0 where
  pub order : low ≤ high
  pub each : (q : ℕ) → times q xs + times q ys ≡ inside low high q
  pub below : (q r : ℕ) → times q xs ≢ 0 → times r ys ≢ 0 → q < r

-- then the first list has a front part of the range, as long as the list
pub record IsFront (low high : ℕ) (xs ys : List ℕ) : Type 0 where
  pub room : low + length xs ≤ high
  pub front : (q : ℕ) → times q xs ≡ inside low (low + length xs) q
  pub rest : (q : ℕ) → times q ys ≡ inside (low + length xs) high q

front-none : (low high : ℕ) (xs ys : List ℕ) → IsParted low high xs ys → xs ≡ [] → IsFront low high xs ys
front-none low high xs ys p e =
    let P : List ℕ → Type 0 = λ zs. IsFront low high zs ys in
    let none : (q : ℕ) → times q xs ≡ 0 = λ q. ap (times q) e in
    subst P (sym e) (record {
      room = let o = p.order in omega (arith, o);
      front = λ q. sym (inside-none q);
      rest = λ q. let same : low + 0 ≡ low = omega arith in rw same (let a = p.each q in let b = none q in omega (arith, a, b));
    })
  where
    inside-none : (q : ℕ) → inside low (low + 0) q ≡ 0
    inside-none q =
        elim (nat_lt q low) as (λ a. nat_lt q low ≡ a → inside low (low + 0) q ≡ 0) [
          | true ↦ λ e. inside-low low (low + 0) q (grind (arith, nat_tests))
          | false ↦ λ e. let more : low ≤ q = grind (arith, nat_tests) in inside-high low (low + 0) q (omega arith)
        ] refl

-- the least number of the range is in the first list
parted-next : (low high : ℕ) (xs ys : List ℕ) → low < high → IsParted low high xs ys → times low xs ≡ 1 → IsParted (low + 1) high (without low xs) ys
parted-next low high xs ys less p one = record {
  order = omega arith;
  each = λ q. elim (q == low) as (λ b. (q == low) ≡ b → times q (without low xs) + times q ys ≡ inside (low + 1) high q) [
    | true ↦ λ e.
        let same : q ≡ low = grind (arith, nat_tests) in
        let P : ℕ → Type 0 = λ n. times n (without low xs) + times n ys ≡ inside (low + 1) high n in
        let all = p.each low in
        let here = inside-yes low high low (omega arith) less in
        let none = inside-low (low + 1) high low (omega arith) in
        subst P (sym same) (omega (arith, times-without_same low xs, all, here, none, one))
    | false ↦ λ e.
        let other : q ≢ low = grind (arith, nat_tests) in
        let all = p.each q in
        omega (arith, times-without_other low q xs other, all, later q other)
  ] refl;
  below = λ q r n m. p.below q r (λ z. n (gone q z)) m;
}
  where
    later : (q : ℕ) → q ≢ low → inside low high q ≡ inside (low + 1) high q
    later q n =
        let both = inside-both low (low + 1) high q (omega arith) (omega arith) in
        let none : inside low (low + 1) q ≡ 0 = elim (nat_lt q low) as (λ a. nat_lt q low ≡ a → inside low (low + 1) q ≡ 0) [
          | true ↦ λ e. inside-low low (low + 1) q (grind (arith, nat_tests))
          | false ↦ λ e. let more : low ≤ q = grind (arith, nat_tests) in inside-high low (low + 1) q (omega (arith, n, more))
        ] refl in
        omega (arith, both, none)

    gone : (q : ℕ) → times q xs ≡ 0 → times q (without low xs) ≡ 0
    gone q z = elim (q == low) as (λ b. (q == low) ≡ b → times q (without low xs) ≡ 0) [
      | true ↦ λ e. let same : q ≡ low = grind (arith, nat_tests) in let P : ℕ → Type 0 = λ n. times n (without low xs) ≡ 0 in subst P (sym same) (times-without_same low xs)
      | false ↦ λ e. let other : q ≢ low = grind (arith, nat_tests) in times-without_other low q xs other ∙ z
    ] refl

front-next : (low high : ℕ) (xs ys : List ℕ) → low < high → IsParted low high xs ys → times low xs ≡ 1 → IsFront (low + 1) high (without low xs) ys → IsFront low high xs ys
front-next low high xs ys less p one f =
    let long = length-without low xs in
    let end : low + 1 + length (without low xs) ≡ low + length xs = omega (arith, long, one) in
    let R : ℕ → Type 0 = λ n. n ≤ high in
    record {
      room = subst R end f.room;
      front = λ q.
          let P : ℕ → Type 0 = λ n. times q (without low xs) ≡ inside (low + 1) n q in
          let old = subst P end (f.front q) in
          elim (q == low) as (λ b. (q == low) ≡ b → times q xs ≡ inside low (low + length xs) q) [
            | true ↦ λ e.
                let same : q ≡ low = grind (arith, nat_tests) in
                let Q : ℕ → Type 0 = λ n. times n xs ≡ inside low (low + length xs) n in
                subst Q (sym same) (one ∙ sym (inside-yes low (low + length xs) low (omega arith) (omega (arith, long, one))))
            | false ↦ λ e.
                let other : q ≢ low = grind (arith, nat_tests) in
                let both = inside-both low (low + 1) (low + length xs) q (omega arith) (omega (arith, long, one)) in
                let none : inside low (low + 1) q ≡ 0 = elim (nat_lt q low) as (λ a. nat_lt q low ≡ a → inside low (low + 1) q ≡ 0) [
                  | true ↦ λ e. inside-low low (low + 1) q (grind (arith, nat_tests))
                  | false ↦ λ e. let more : low ≤ q = grind (arith, nat_tests) in inside-high low (low + 1) q (omega (arith, other, more))
                ] refl in
                let kept = times-without_other low q xs other in
                omega (arith, old, both, none, kept)
          ] refl;
      rest = λ q. let P : ℕ → Type 0 = λ n. times q ys ≡ inside n high q in subst P end (f.rest q);
    }

pub front-of : (n low high : ℕ) (xs ys : List ℕ) → low + n ≡ high → IsParted low high xs ys → IsFront low high xs ys
front-of zero low high xs ys e p =
    front-none low high xs ys p (none-empty xs (λ q.
    let all = p.each q in
    let none : inside low high q ≡ 0 = elim (nat_lt q low) as (λ a. nat_lt q low ≡ a → inside low high q ≡ 0) [
      | true ↦ λ t. inside-low low high q (grind (arith, nat_tests))
      | false ↦ λ t. let more : low ≤ q = grind (arith, nat_tests) in inside-high low high q (omega (arith, e, more))
    ] refl in
    omega (arith, all, none)))
front-of (suc n) low high xs ys e p =
    let all = p.each low in
    let here = inside-yes low high low (omega arith) (omega arith) in
    elim (times low xs == 1) as (λ b. (times low xs == 1) ≡ b → IsFront low high xs ys) [
      | true ↦ λ t.
          let one : times low xs ≡ 1 = grind (arith, nat_tests) in
          let less : low < high = omega arith in
          front-next low high xs ys less p one (front-of n (low + 1) high (without low xs) ys (omega arith) (parted-next low high xs ys less p one))
      | false ↦ λ t.
          let other : times low xs ≢ 1 = grind (arith, nat_tests) in
          let later : times low ys ≢ 0 = omega (arith, all, here, other) in
          front-none low high xs ys p (none-empty xs (λ q.
          elim (times q xs == 0) as (λ b. (times q xs == 0) ≡ b → times q xs ≡ 0) [
            | true ↦ λ s. grind (arith, nat_tests)
            | false ↦ λ s.
                let some : times q xs ≢ 0 = grind (arith, nat_tests) in
                let less = p.below q low some later in
                let sum = p.each q in
                let none = inside-low low high q less in
                omega (arith, sum, none)
          ] refl))
    ] refl
