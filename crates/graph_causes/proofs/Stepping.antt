-- One function more of a stage: the rule makes of the branches before it those with it.
use Rattle.std.proofs.Common.{◌≡◌, ◌∙◌, ◌⊎◌, inl, inr, ℕ, zero, suc, ◌+◌, ◌<◌, ◌≤◌, true, false, cond, List, [], ◌∷◌, ◌++◌, map, take, refl, sym, ap, subst, arith, Some}
use Rattle.std.specs.Prelude.{count_by, slice_get, slice_index}
use Rattle.std.specs.List.{list_any, AllByRecursion}
use Rattle.std.proofs.lemmas.Bool.Decides.{nat_tests}
use Rattle.action_profile.specs.declared.rights.Profile.{Profile}
use Rattle.graph_compile.specs.Facts.{rises}
use Rattle.graph_compile.specs.Positions.{holds}
use Rattle.graph_compile.specs.Stages.{is_forbidden, holds_back, alone, longer, grown, placed, placed_by}
use Rattle.graph_compile.specs.declared.graph.Branch.{Branch}
use Rattle.graph_compile.specs.declared.graph.Stage.{Stage}
use Rattle.graph_compile.proofs.Counting.{one_if, count-cons}
use Rattle.graph_causes.specs.Causes.{first_of}
use Rattle.graph_causes.proofs.Before.{before, with_branch, up_to, before-other, before-place, before-none, all-late}
use Rattle.graph_causes.proofs.Drafts.{Draft}

-- a branch without the function, and without one that is forbidden before it
pub record IsApart (chain : List Profile) (p : ℕ) (b : Branch) : Type 0 where
  pub out : holds p b ≡ false
  pub free : (q : ℕ) → holds q b ≡ true → q < p → is_forbidden chain q p ≡ false

-- the branch of the function, which is the first of it or has a cause to be there
pub record HasIt (chain : List Profile) (p : ℕ) (b : Branch) : Type 0 where
  pub low : ℕ
  pub rise : rises low b.positions ≡ true
  pub place : ℕ
  pub there : slice_get b.positions place ≡ Some p
  pub cause : (k : ℕ) → place ≡ suc k → list_any (λ q. is_forbidden chain q p) (take (suc k) b.positions) ≡ true

-- one branch has the function
abbrev pub OneHasIt : List Profile → ℕ → List Branch → Type 0
OneHasIt chain p [] = ⊥
OneHasIt chain p (b ∷ bs) = (HasIt chain p b × AllByRecursion (IsApart chain p) bs) ⊎ (IsApart chain p b × OneHasIt chain p bs)

-- some branches, and what the rule makes of them: a branch more, or one that is longer
pub record IsOpened (chain : List Profile) (p : ℕ) (bs cs : List Branch) : Type 0 where
  pub none : count_by (holds_back chain p) bs ≡ 0
  pub is : cs ≡ bs ++ alone p ∷ []

pub record IsGrown (chain : List Profile) (p n : ℕ) (bs cs : List Branch) : Type 0 where
  pub count : count_by (holds_back chain p) bs ≡ n
  pub is : cs ≡ map (grown chain p) bs

abbrev pub IsNext : List Profile → ℕ → List Branch → List Branch → Type 0
IsNext chain p bs cs = IsOpened chain p bs cs ⊎ IsGrown chain p 1 bs cs

-- one branch more in front, which doesn't hold the function back
opened-cons : (chain : List Profile) (p : ℕ) (qs : List ℕ) (bs cs : List Branch) → list_any (λ q. is_forbidden chain q p) qs ≡ false → IsOpened chain p bs cs → IsOpened chain p (with_branch qs bs) (with_branch qs cs)
unfolding holds_back
opened-cons chain p [] bs cs f h = h
opened-cons chain p (q ∷ qs) bs cs f h =
    let b : Branch = record { positions = q ∷ qs } in
    let here : one_if (holds_back chain p b) ≡ 0 = ap one_if f in
    let rest = h.none in
    record {
      none = omega (arith, count-cons (holds_back chain p) b bs, here, rest);
      is = ap (λ (ds : List Branch). b ∷ ds) h.is;
    }

grown-cons : (chain : List Profile) (p n : ℕ) (qs : List ℕ) (bs cs : List Branch) → list_any (λ q. is_forbidden chain q p) qs ≡ false → IsGrown chain p n bs cs → IsGrown chain p n (with_branch qs bs) (with_branch qs cs)
unfolding holds_back
grown-cons chain p n [] bs cs f h = h
grown-cons chain p n (q ∷ qs) bs cs f h =
    let b : Branch = record { positions = q ∷ qs } in
    let here : one_if (holds_back chain p b) ≡ 0 = ap one_if f in
    let rest = h.count in
    let same : b ≡ cond (holds_back chain p b) (longer b p) b = rw f refl in
    let is = h.is in
    record {
      count = omega (arith, count-cons (holds_back chain p) b bs, here, rest);
      is = ap (λ (ds : List Branch). b ∷ ds) is ∙ ap (λ (c : Branch). c ∷ map (grown chain p) bs) same;
    }

next-cons : (chain : List Profile) (p : ℕ) (qs : List ℕ) (bs cs : List Branch) → list_any (λ q. is_forbidden chain q p) qs ≡ false → IsNext chain p bs cs → IsNext chain p (with_branch qs bs) (with_branch qs cs)
next-cons chain p qs bs cs f h =
    elim h [
      | inl o ↦ inl (opened-cons chain p qs bs cs f o)
      | inr g ↦ inr (grown-cons chain p 1 qs bs cs f g)
    ]

-- branches that don't have the function stay as they are
apart-grown : (chain : List Profile) (p : ℕ) (bs : List Branch) → AllByRecursion (IsApart chain p) bs → IsGrown chain p 0 (up_to p bs) (up_to (p + 1) bs)
apart-grown chain p [] h = record { count = refl; is = refl }
apart-grown chain p (b ∷ bs) h =
    let same : before (p + 1) b.positions ≡ before p b.positions = before-other p b.positions h.0.out in
    let free = before-none p (λ q. is_forbidden chain q p) b.positions h.0.free in
    let rest = grown-cons chain p 0 (before p b.positions) (up_to p bs) (up_to (p + 1) bs) free (apart-grown chain p bs h.1) in
    rw same rest

-- the branch that has the function, which isn't the first of it
longer-cons : (chain : List Profile) (p : ℕ) (qs : List ℕ) (bs cs : List Branch) → list_any (λ q. is_forbidden chain q p) qs ≡ true → IsGrown chain p 0 bs cs → IsGrown chain p 1 (with_branch qs bs) (with_branch (qs ++ p ∷ []) cs)
unfolding holds_back
longer-cons chain p [] bs cs f h = cc
longer-cons chain p (q ∷ qs) bs cs f h =
    let b : Branch = record { positions = q ∷ qs } in
    let here : one_if (holds_back chain p b) ≡ 1 = ap one_if f in
    let rest = h.count in
    let same : longer b p ≡ cond (holds_back chain p b) (longer b p) b = rw f refl in
    let is = h.is in
    record {
      count = omega (arith, count-cons (holds_back chain p) b bs, here, rest);
      is = ap (λ (ds : List Branch). longer b p ∷ ds) is ∙ ap (λ (c : Branch). c ∷ map (grown chain p) bs) same;
    }

has_it-next : (chain : List Profile) (p : ℕ) (b : Branch) (bs : List Branch) (place : ℕ) (it : HasIt chain p b) → it.place ≡ place → rises 0 (map first_of (b ∷ bs)) ≡ true → AllByRecursion (IsApart chain p) bs →
    IsNext chain p (up_to p (b ∷ bs)) (up_to (p + 1) (b ∷ bs))
has_it-next chain p b bs zero it e r h =
    let P : ℕ → Type 0 = λ k. slice_get b.positions k ≡ Some p in
    let there : slice_get b.positions 0 ≡ Some p = subst P e it.there in
    let parts = before-place it.low 0 p b.positions it.rise there in
    let first : first_of b ≡ p = first-is b.positions there in
    let later : rises (suc (first_of b)) (map first_of bs) ≡ true = grind arith in
    let none : up_to p bs ≡ [] = all-late p (suc (first_of b)) bs (omega (arith, first)) later in
    let still : up_to (p + 1) bs ≡ [] = all-late (p + 1) (suc (first_of b)) bs (omega (arith, first)) later in
    inl (rw (parts.0, parts.1, none, still) (record { none = refl; is = refl }))
  where
    first-is : (qs : List ℕ) → slice_get qs 0 ≡ Some p → slice_index qs 0 ≡ p
    first-is [] e = cc
    first-is (q ∷ qs) e = cc
has_it-next chain p b bs (suc k) it e r h =
    let P : ℕ → Type 0 = λ k. slice_get b.positions k ≡ Some p in
    let there : slice_get b.positions (suc k) ≡ Some p = subst P e it.there in
    let parts = before-place it.low (suc k) p b.positions it.rise there in
    let held = it.cause k e in
    let rest = longer-cons chain p (take (suc k) b.positions) (up_to p bs) (up_to (p + 1) bs) held (apart-grown chain p bs h) in
    inr (rw (parts.0, parts.1) rest)

rises-lower : (low high : ℕ) (xs : List ℕ) → low ≤ high → rises high xs ≡ true → rises low xs ≡ true
rises-lower low high [] l h = refl
rises-lower low high (x ∷ xs) l h = grind (arith, nat_tests)

-- the rule makes of the branches before the function those with it
pub next-of : (chain : List Profile) (p : ℕ) (bs : List Branch) → OneHasIt chain p bs → rises 0 (map first_of bs) ≡ true → IsNext chain p (up_to p bs) (up_to (p + 1) bs)
next-of chain p [] h r = absurd h
next-of chain p (b ∷ bs) h r =
    elim h [
      | inl x ↦ has_it-next chain p b bs x.0.place x.0 refl r x.1
      | inr x ↦
          let same : before (p + 1) b.positions ≡ before p b.positions = before-other p b.positions x.0.out in
          let free = before-none p (λ q. is_forbidden chain q p) b.positions x.0.free in
          let later : rises (suc (first_of b)) (map first_of bs) ≡ true = grind arith in
          let rest = next-of chain p bs x.1 (rises-lower 0 (suc (first_of b)) (map first_of bs) (omega arith) later) in
          rw same (next-cons chain p (before p b.positions) (up_to p bs) (up_to (p + 1) bs) free rest)
    ]

-- the draft with the function
pub placed-next : (chain : List Profile) (stages : List Stage) (p : ℕ) (bs cs : List Branch) → IsNext chain p bs cs →
    placed chain (record { stages = stages; branches = bs }) p ≡ record { stages = stages; branches = cs }
unfolding placed
placed-next chain stages p bs cs h =
    let draft : Draft = record { stages = stages; branches = bs } in
    elim h [
      | inl o ↦ ap (λ (n : ℕ). placed_by n chain draft p) o.none ∙ ap (λ (ds : List Branch). record { stages = stages; branches = ds }) (sym o.is)
      | inr g ↦ ap (λ (n : ℕ). placed_by n chain draft p) g.count ∙ ap (λ (ds : List Branch). record { stages = stages; branches = ds }) (sym g.is)
    ]
