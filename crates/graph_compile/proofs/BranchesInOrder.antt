-- A function that is placed keeps the branches of the open stage in order.
use Rattle.std.proofs.Common.{◌≡◌, ◌≢◌, ℕ, suc, ◌+◌, ◌<◌, ◌≤◌, Bool, true, false, ◌||◌, cond, List, [], ◌∷◌, ◌++◌, length, map, refl, sym, ap, ◌∙◌, subst, arith, length-append}
use Rattle.std.specs.Prelude.{◌==◌, count_by}
use Rattle.std.specs.List.{list_any, AllByRecursion}
use Rattle.std.proofs.lemmas.Bool.Decides.{nat_tests}
use Rattle.std.proofs.lemmas.List.Sums.{sum_by-cons, sum_by_push}
use Rattle.action_profile.specs.declared.rights.Profile.{Profile}
use Rattle.graph_compile.specs.declared.graph.Branch.{Branch}
use Rattle.graph_compile.specs.Facts.{rises}
use Rattle.graph_compile.specs.Lawful.{size, Rises, EndsBelow, Joins, Stands}
use Rattle.graph_compile.specs.Positions.{holds}
use Rattle.graph_compile.specs.Stages.{is_forbidden, holds_back, alone, longer, grown}
use Rattle.graph_compile.proofs.Counting.{AllByRecursion-weaker, AllByRecursion-both, AllByRecursion-push, AllByRecursion-map, one_if, count-cons, count-push, count-none, count-le, count-map, any-push, any-at}

pub holds-longer : (q p : ℕ) (b : Branch) → holds q (longer b p) ≡ (holds q b || (p == q))
holds-longer q p b = any-push (λ x. x == q) b.positions p

rises-longer : (low p : ℕ) (xs : List ℕ) → rises low xs ≡ true → ((q : ℕ) → list_any (λ x. x == q) xs ≡ true → q < p) → low ≤ p → rises low (xs ++ p ∷ []) ≡ true
rises-longer low p [] h below l = grind (arith, nat_tests)
rises-longer low p (x ∷ xs) h below l =
    let here : (x == x) ≡ true = grind (arith, nat_tests) in
    let less : x < p = below x (grind arith) in
    let after : rises (suc x) xs ≡ true = grind arith in
    let rest = rises-longer (suc x) p xs after (λ q i. below q (grind arith)) (omega arith) in
    grind arith

-- a function that no branch holds back is forbidden after none of the stage
none_forbidden : (chain : List Profile) (first next : ℕ) (bs : List Branch) → Stands chain first next bs → count_by (holds_back chain next) bs ≡ 0 → (q : ℕ) → first ≤ q → q < next → is_forbidden chain q next ≡ false
unfolding holds_back
none_forbidden chain first next bs s none q l h =
    elim (is_forbidden chain q next) as (λ b. is_forbidden chain q next ≡ b → b ≡ false) [
      | true ↦ λ f.
          let fewer = count-le (holds q) (holds_back chain next) (λ b i. any-at (λ x. is_forbidden chain x next) b.positions q i f) bs in
          let one = s.once q l h in
          absurd (omega (arith, fewer, one, none))
      | false ↦ λ f. refl
    ] refl

size-push : (bs : List Branch) (p : ℕ) → size (bs ++ alone p ∷ []) ≡ size bs + 1
size-push bs p = sum_by_push (λ (b : Branch). length b.positions) bs (alone p)

-- a new branch
pub Stands-new : (chain : List Profile) (first next : ℕ) (bs : List Branch) → Stands chain first next bs → count_by (holds_back chain next) bs ≡ 0 → Stands chain first (next + 1) (bs ++ alone next ∷ [])
Stands-new chain first next bs s none = record {
  count = let n = s.count in let m = size-push bs next in omega (arith, n, m);
  rise = AllByRecursion-push (Rises first) bs (alone next) s.rise (record { rises = let n = s.count in grind (arith, nat_tests) });
  end = AllByRecursion-push (EndsBelow (next + 1)) bs (alone next) (AllByRecursion-weaker (EndsBelow next) (EndsBelow (next + 1)) (λ b e. record { below = λ q i. let l = e.below q i in omega (arith, l) }) bs s.end) (record { below = λ q i. grind (arith, nat_tests) });
  once = λ q l h. once_new q l h;
  join = AllByRecursion-push (Joins chain first) bs (alone next) s.join (record { joins = λ q r i l h f. joins_new q r i l h f });
}
  where
    once_new : (q : ℕ) → first ≤ q → q < next + 1 → count_by (holds q) (bs ++ alone next ∷ []) ≡ 1
    once_new q l h =
        elim (next == q) as (λ b. (next == q) ≡ b → count_by (holds q) (bs ++ alone next ∷ []) ≡ 1) [
          | true ↦ λ e.
              let same : next ≡ q = grind (arith, nat_tests) in
              let before = count-none (holds q) bs (AllByRecursion-weaker (EndsBelow next) (λ b. holds q b ≡ false) (λ b x. elim (holds q b) as (λ t. holds q b ≡ t → t ≡ false) [ true ↦ λ i. let l = x.below q i in absurd (omega (arith, l, same)) | false ↦ λ i. refl ] refl) bs s.end) in
              let here : one_if (holds q (alone next)) ≡ 1 = rw e refl in
              omega (arith, count-push (holds q) bs (alone next), before, here)
          | false ↦ λ e.
              let other : next ≢ q = grind (arith, nat_tests) in
              let before = s.once q l (omega (arith, h, other)) in
              let here : one_if (holds q (alone next)) ≡ 0 = rw e refl in
              omega (arith, count-push (holds q) bs (alone next), before, here)
        ] refl

    joins_new : (q r : ℕ) → holds r (alone next) ≡ true → first ≤ q → q < r → is_forbidden chain q r ≡ true → holds q (alone next) ≡ true
    joins_new q r i l h f =
        let same : next ≡ r = grind (arith, nat_tests) in
        let P : ℕ → Type 0 = λ n. is_forbidden chain q n ≡ true in
        let other = none_forbidden chain first next bs s none q l (omega (arith, same, h)) in
        let here = subst P (sym same) f in
        absurd (grind (arith, other, here))

-- a branch of one function
pub Stands-alone : (chain : List Profile) (position : ℕ) → Stands chain position (position + 1) (alone position ∷ [])
Stands-alone chain position = record {
  count = refl;
  rise = (record { rises = grind (arith, nat_tests) }, tt);
  end = (record { below = λ q i. grind (arith, nat_tests) }, tt);
  once = λ q l h.
      let same : position ≡ q = omega arith in
      let here : one_if (holds q (alone position)) ≡ 1 = grind (arith, nat_tests) in
      omega (arith, count-cons (holds q) (alone position) [], here);
  join = (record { joins = λ q r i l h f. let same : position ≡ r = grind (arith, nat_tests) in absurd (omega arith) }, tt);
}

size-grown : (chain : List Profile) (p : ℕ) (bs : List Branch) → size (map (grown chain p) bs) ≡ size bs + count_by (holds_back chain p) bs
size-grown chain p [] = refl
size-grown chain p (b ∷ bs) =
    let rest = size-grown chain p bs in
    let here : length (grown chain p b).positions ≡ length b.positions + one_if (holds_back chain p b) = one_longer (holds_back chain p b) in
    omega (arith, rest, here, sum_by-cons (λ (b : Branch). length b.positions) (grown chain p b) (map (grown chain p) bs), sum_by-cons (λ (b : Branch). length b.positions) b bs, count-cons (holds_back chain p) b bs)
  where
    one_longer : (t : Bool) → length (cond t (longer b p) b).positions ≡ length b.positions + one_if t
    one_longer true = length-append b.positions (p ∷ [])
    one_longer false = omega arith

-- A test whose passers all pass the other test, and are no fewer: then all that pass the other pass it.
pub all-from_count : (p h : Branch → Bool) → ((b : Branch) → p b ≡ true → h b ≡ true) → (bs : List Branch) → count_by h bs ≤ count_by p bs → AllByRecursion (λ b. h b ≡ true → p b ≡ true) bs
all-from_count p h f [] l = tt
all-from_count p h f (b ∷ bs) l =
    let fewer = count-le p h f bs in
    let hc = count-cons h b bs in
    let pc = count-cons p b bs in (
      here (p b) (h b) refl refl,
      all-from_count p h f bs (rest (p b) (h b) refl refl),
    )
  where
    here : (s t : Bool) → p b ≡ s → h b ≡ t → h b ≡ true → p b ≡ true
    here true t e g i = e
    here false t e g i =
        let fewer = count-le p h f bs in
        let a : one_if (h b) ≡ 1 = ap one_if i in
        let z : one_if (p b) ≡ 0 = ap one_if e in
        absurd (omega (arith, l, count-cons h b bs, count-cons p b bs, fewer, a, z))

    rest : (s t : Bool) → p b ≡ s → h b ≡ t → count_by h bs ≤ count_by p bs
    rest true t e g =
        let a : one_if (h b) ≡ 1 = ap one_if (f b e) in
        let z : one_if (p b) ≡ 1 = ap one_if e in
        omega (arith, l, count-cons h b bs, count-cons p b bs, a, z)
    rest false t e g =
        let z : one_if (p b) ≡ 0 = ap one_if e in
        omega (arith, l, count-cons h b bs, count-cons p b bs, z)

-- the branch that holds a function back has each function that is forbidden before it
pub record HoldsAll (chain : List Profile) (first next : ℕ) (b : Branch) : Type 0 where
  pub has : (q : ℕ) → first ≤ q → q < next → is_forbidden chain q next ≡ true → holds_back chain next b ≡ true → holds q b ≡ true

all-of_each : {X : Type 0} (P : ℕ → X → Type 0) (A : ℕ → Type 0) (xs : List X) → ((q : ℕ) → A q → AllByRecursion (P q) xs) → AllByRecursion (λ x. (q : ℕ) → A q → P q x) xs
all-of_each P A [] h = tt
all-of_each P A (x ∷ xs) h = (λ q a. (h q a).0, all-of_each P A xs (λ q a. (h q a).1))

pub record Precedes (chain : List Profile) (first next q : ℕ) : Type 0 where
  pub from : first ≤ q
  pub before : q < next
  pub forbidden : is_forbidden chain q next ≡ true

all_held : (chain : List Profile) (first next : ℕ) (bs : List Branch) → Stands chain first next bs → count_by (holds_back chain next) bs ≡ 1 → AllByRecursion (HoldsAll chain first next) bs
unfolding holds_back
all_held chain first next bs s one =
    AllByRecursion-weaker (λ b. (q : ℕ) → Precedes chain first next q → holds_back chain next b ≡ true → holds q b ≡ true) (HoldsAll chain first next) (λ b x. record { has = λ q l h f. x q (record { from = l; before = h; forbidden = f }) }) bs
    (all-of_each (λ q b. holds_back chain next b ≡ true → holds q b ≡ true) (Precedes chain first next) bs (λ q a.
    let once = s.once q a.from a.before in
    all-from_count (holds q) (holds_back chain next) (λ b i. any-at (λ x. is_forbidden chain x next) b.positions q i a.forbidden) bs (omega (arith, once, one))))

-- what holds for one branch before a function is placed
record Before (chain : List Profile) (first next : ℕ) (b : Branch) : Type 0 where
  pub rise : Rises first b
  pub end : EndsBelow next b
  pub join : Joins chain first b
  pub held : HoldsAll chain first next b

before : (chain : List Profile) (first next : ℕ) (bs : List Branch) → Stands chain first next bs → count_by (holds_back chain next) bs ≡ 1 → AllByRecursion (Before chain first next) bs
before chain first next bs s one =
    AllByRecursion-both (λ b. Rises first b × EndsBelow next b) (λ b. Joins chain first b × HoldsAll chain first next b) (Before chain first next) (λ b x y. record { rise = x.0; end = x.1; join = y.0; held = y.1 }) bs
    (AllByRecursion-both (Rises first) (EndsBelow next) (λ b. Rises first b × EndsBelow next b) (λ b x y. (x, y)) bs s.rise s.end)
    (AllByRecursion-both (Joins chain first) (HoldsAll chain first next) (λ b. Joins chain first b × HoldsAll chain first next b) (λ b x y. (x, y)) bs s.join (all_held chain first next bs s one))

pub not_held : (next : ℕ) (b : Branch) → EndsBelow next b → holds next b ≡ false
not_held next b e = elim (holds next b) as (λ t. holds next b ≡ t → t ≡ false) [ true ↦ λ i. let l = e.below next i in absurd (omega (arith, l)) | false ↦ λ i. refl ] refl

-- what holds for it afterwards
record After (chain : List Profile) (first next : ℕ) (b c : Branch) : Type 0 where
  pub rise : Rises first c
  pub end : EndsBelow (next + 1) c
  pub join : Joins chain first c
  pub others : (q : ℕ) → q ≢ next → holds q c ≡ holds q b
  pub itself : holds next c ≡ holds_back chain next b

after-held : (chain : List Profile) (first next : ℕ) (b : Branch) → first ≤ next → Before chain first next b → holds_back chain next b ≡ true → After chain first next b (longer b next)
after-held chain first next b l x t = record {
  rise = record { rises = rises-longer first next b.positions x.rise.rises x.end.below l };
  end = record {
    below = λ q i.
        elim (holds q b) as (λ s. holds q b ≡ s → q < next + 1) [
          | true ↦ λ e. let m = x.end.below q e in omega (arith, m)
          | false ↦ λ e. let j = holds-longer q next b in let same : next ≡ q = grind (arith, nat_tests) in omega (arith, same)
        ] refl;
  };
  join = record {
    joins = λ q r i m h f.
        let kept = holds-longer q next b in
        let old : holds q b ≡ true =
        elim (holds r b) as (λ s. holds r b ≡ s → holds q b ≡ true) [
          | true ↦ λ e. x.join.joins q r e m h f
          | false ↦ λ e.
              let j = holds-longer r next b in
              let same : next ≡ r = grind (arith, nat_tests) in
              let P : ℕ → Type 0 = λ n. is_forbidden chain q n ≡ true in
              x.held.has q m (omega (arith, same, h)) (subst P (sym same) f) t
        ] refl in
        grind arith;
  };
  others = λ q ne. let j = holds-longer q next b in grind (arith, nat_tests);
  itself = let j = holds-longer next next b in let same : (next == next) ≡ true = grind (arith, nat_tests) in let none = not_held next b x.end in grind arith;
}

after-other : (chain : List Profile) (first next : ℕ) (b : Branch) → Before chain first next b → holds_back chain next b ≡ false → After chain first next b b
after-other chain first next b x t = record {
  rise = x.rise;
  end = record { below = λ q i. let m = x.end.below q i in omega (arith, m) };
  join = x.join;
  others = λ q ne. refl;
  itself = not_held next b x.end ∙ sym t;
}

after : (chain : List Profile) (first next : ℕ) (b : Branch) → first ≤ next → Before chain first next b → After chain first next b (grown chain next b)
after chain first next b l x =
    elim (holds_back chain next b) as (λ t. holds_back chain next b ≡ t → After chain first next b (cond t (longer b next) b)) [
      | true ↦ after-held chain first next b l x
      | false ↦ after-other chain first next b x
    ] refl

-- the branch that holds the function back gets it
pub Stands-grown : (chain : List Profile) (first next : ℕ) (bs : List Branch) → Stands chain first next bs → count_by (holds_back chain next) bs ≡ 1 → Stands chain first (next + 1) (map (grown chain next) bs)
Stands-grown chain first next bs s one =
    let low : first ≤ next = let n = s.count in omega (arith, n) in
    let all = AllByRecursion-weaker (Before chain first next) (λ b. After chain first next b (grown chain next b)) (λ b x. after chain first next b low x) bs (before chain first next bs s one) in
    record {
      count = let n = s.count in omega (arith, n, size-grown chain next bs, one);
      rise = AllByRecursion-map (Rises first) (grown chain next) bs (AllByRecursion-weaker (λ b. After chain first next b (grown chain next b)) (λ b. Rises first (grown chain next b)) (λ b x. x.rise) bs all);
      end = AllByRecursion-map (EndsBelow (next + 1)) (grown chain next) bs (AllByRecursion-weaker (λ b. After chain first next b (grown chain next b)) (λ b. EndsBelow (next + 1) (grown chain next b)) (λ b x. x.end) bs all);
      once = λ q l h.
          elim (q == next) as (λ t. (q == next) ≡ t → count_by (holds q) (map (grown chain next) bs) ≡ 1) [
            | true ↦ λ e.
                let same : q ≡ next = grind (arith, nat_tests) in
                let P : ℕ → Type 0 = λ n. count_by (holds n) (map (grown chain next) bs) ≡ 1 in
                subst P (sym same) (count-map (holds next) (grown chain next) (holds_back chain next) bs (AllByRecursion-weaker (λ b. After chain first next b (grown chain next b)) (λ b. holds next (grown chain next b) ≡ holds_back chain next b) (λ b x. x.itself) bs all) ∙ one)
            | false ↦ λ e.
                let other : q ≢ next = grind (arith, nat_tests) in
                count-map (holds q) (grown chain next) (holds q) bs (AllByRecursion-weaker (λ b. After chain first next b (grown chain next b)) (λ b. holds q (grown chain next b) ≡ holds q b) (λ b x. x.others q other) bs all) ∙ s.once q l (omega (arith, h, other))
          ] refl;
      join = AllByRecursion-map (Joins chain first) (grown chain next) bs (AllByRecursion-weaker (λ b. After chain first next b (grown chain next b)) (λ b. Joins chain first (grown chain next b)) (λ b x. x.join) bs all);
    }
