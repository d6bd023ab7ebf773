-- The rule fills a stage with its functions, one after another.
use Rattle.std.proofs.Common.{◌≡◌, ◌≢◌, ◌∙◌, inl, inr, ℕ, zero, suc, ◌+◌, ◌<◌, ◌≤◌, true, false, List, [], ◌∷◌, ◌++◌, length, map, take, fold, refl, sym, ap, subst, arith, Some}
use Rattle.std.specs.Prelude.{◌==◌, nat_lt, count_by, slice_get, slice_index}
use Rattle.std.specs.List.{list_any, range_with_len, AllByRecursion}
use Rattle.std.proofs.lemmas.Bool.Decides.{nat_tests}
use Rattle.action_profile.specs.declared.rights.Profile.{Profile}
use Rattle.graph_compile.specs.Causes.{opener}
use Rattle.graph_compile.specs.Facts.{rises}
use Rattle.graph_compile.specs.Lawful.{size, Rises, Stands, IsLawfulStage}
use Rattle.graph_compile.specs.Positions.{holds}
use Rattle.graph_compile.specs.Stages.{is_forbidden, holds_back, alone, stage_of, placed}
use Rattle.graph_compile.specs.declared.graph.Branch.{Branch}
use Rattle.graph_compile.specs.declared.graph.Stage.{Stage}
use Rattle.graph_compile.proofs.FiveFacts.{each-at, each-from, count-two, count-find, any-count, stage-apart}
use Rattle.graph_causes.specs.Causes.{first_of}
use Rattle.graph_causes.proofs.Before.{up_to, all-late, up_to-start, up_to-end, HasSome}
use Rattle.graph_causes.proofs.Drafts.{Draft}
use Rattle.graph_causes.proofs.Stepping.{IsApart, HasIt, OneHasIt, IsNext, next-of, placed-next}

-- what is said of a stage by its causes
pub record IsCausedStage (chain : List Profile) (s : Stage) : Type 0 where
  pub joined : (j k : ℕ) (b : Branch) (r : ℕ) → slice_get s.branches j ≡ Some b → slice_get b.positions (suc k) ≡ Some r → list_any (λ q. is_forbidden chain q r) (take (suc k) b.positions) ≡ true
  pub listed : rises 0 (map first_of s.branches) ≡ true
  pub functions : AllByRecursion HasSome s.branches

-- one item is different from all others
one-at : (chain : List Profile) (p : ℕ) (bs : List Branch) (k : ℕ) (c : Branch) → slice_get bs k ≡ Some c → HasIt chain p c →
    ((j : ℕ) (b : Branch) → j ≢ k → slice_get bs j ≡ Some b → IsApart chain p b) → OneHasIt chain p bs
one-at chain p [] k c e x h = cc
one-at chain p (b ∷ bs) zero c e x h =
    let same : c ≡ b = cc in
    inl (subst (HasIt chain p) same x, each-from (IsApart chain p) bs (λ j d f. h (suc j) d (λ z. omega (arith, z)) f))
one-at chain p (b ∷ bs) (suc k) c e x h =
    inr (h 0 b (λ z. omega (arith, z)) refl, one-at chain p bs k c e x (λ j d n f. h (suc j) d (λ z. n (omega (arith, z))) f))

one-has_it : (chain : List Profile) (first next : ℕ) (s : Stage) → Stands chain first next s.branches → IsCausedStage chain s → (p : ℕ) → first ≤ p → p < next → OneHasIt chain p s.branches
one-has_it chain first next s st c p l h =
    let once = st.once p l h in
    let found = count-find (holds p) s.branches (omega (arith, once)) in
    let k = found.at in
    let b = found.it in
    let place = count-find (λ x. x == p) b.positions (any-count (λ x. x == p) b.positions found.passes) in
    let is : place.it ≡ p = let t = place.passes in grind (arith, nat_tests) in
    let rise = each-at (Rises first) s.branches st.rise k b found.there in
    let it : HasIt chain p b = record {
      low = first;
      rise = rise.rises;
      place = place.at;
      there = subst (λ n. slice_get b.positions place.at ≡ Some n) is place.there;
      cause = λ m e. c.joined k m b p found.there (subst (λ n. slice_get b.positions n ≡ Some p) e (subst (λ n. slice_get b.positions place.at ≡ Some n) is place.there));
    } in
    one-at chain p s.branches k b found.there it (λ j d n e. record {
      out = elim (holds p d) as (λ t. holds p d ≡ t → t ≡ false) [
        | true ↦ λ i. let two = count-two (holds p) s.branches j k d b n e found.there i found.passes in absurd (omega (arith, two, once))
        | false ↦ λ i. refl
      ] refl;
      free = λ q i less. stage-apart chain first next s.branches st j k d b n e found.there q p i found.passes less;
    })

-- what the rule makes of a stage, from its first function on
pub record IsFilled (chain : List Profile) (first : ℕ) (s : Stage) : Type 0 where
  pub more : ℕ
  pub count : size s.branches ≡ suc more
  pub begun : up_to (first + 1) s.branches ≡ alone first ∷ []
  pub filled : (stages : List Stage) → fold (placed chain) (record { stages = stages; branches = up_to (first + 1) s.branches }) (range_with_len (first + 1) more) ≡ record { stages = stages; branches = s.branches }
  pub opens : opener s.branches ≡ first
  pub some : 0 < length s.branches
  pub is : s ≡ stage_of chain s.branches

fill : (chain : List Profile) (stages : List Stage) (bs : List Branch) (p n : ℕ) → ((q : ℕ) → p ≤ q → q < p + n → IsNext chain q (up_to q bs) (up_to (q + 1) bs)) →
    fold (placed chain) (record { stages = stages; branches = up_to p bs }) (range_with_len p n) ≡ record { stages = stages; branches = up_to (p + n) bs }
fill chain stages bs p zero h =
    let same : p ≡ p + 0 = omega arith in
    ap (λ (q : ℕ). record { stages = stages; branches = up_to q bs }) same
fill chain stages bs p (suc n) h =
    let one = placed-next chain stages p (up_to p bs) (up_to (p + 1) bs) (h p (omega arith) (omega arith)) in
    let rest = fill chain stages bs (p + 1) n (λ q l u. h q (omega arith) (omega arith)) in
    let same : p + 1 + n ≡ p + suc n = omega arith in
    ap (λ (d : Draft). fold (placed chain) d (range_with_len (p + 1) n)) one ∙ rest ∙ ap (λ (q : ℕ). record { stages = stages; branches = up_to q bs }) same

-- the first function has a branch of its own
begin : (chain : List Profile) (first : ℕ) (bs cs : List Branch) → bs ≡ [] → IsNext chain first bs cs → cs ≡ alone first ∷ []
begin chain first bs cs e h =
    elim h [
      | inl o ↦ o.is ∙ ap (λ (ds : List Branch). ds ++ alone first ∷ []) e
      | inr g ↦ let one = g.count in let none : count_by (holds_back chain first) bs ≡ 0 = ap (count_by (holds_back chain first)) e in absurd (omega (arith, one, none))
    ]

-- and it is the first of the stage
opener-is : (first : ℕ) (bs : List Branch) → AllByRecursion (Rises first) bs → AllByRecursion HasSome bs → rises 0 (map first_of bs) ≡ true → up_to (first + 1) bs ≡ alone first ∷ [] → opener bs ≡ first
opener-is first [] h g r e = cc
opener-is first (b ∷ bs) h g r e =
    let low : first ≤ first_of b = from b.positions h.0.rises g.0.some in
    elim (nat_lt first (first_of b)) as (λ t. nat_lt first (first_of b) ≡ t → first_of b ≡ first) [
      | true ↦ λ l.
          let above : first + 1 ≤ first_of b = grind (arith, nat_tests) in
          let rest : rises (first_of b) (map first_of (b ∷ bs)) ≡ true = grind (arith, nat_tests) in
          let none = all-late (first + 1) (first_of b) (b ∷ bs) above rest in
          let wrong : [] ≡ alone first ∷ [] = sym none ∙ e in
          cc
      | false ↦ λ l. grind (arith, nat_tests)
    ] refl
  where
    from : (qs : List ℕ) → rises first qs ≡ true → 0 < length qs → first ≤ slice_index qs 0
    from [] r l = absurd (omega arith)
    from (q ∷ qs) r l = grind (arith, nat_tests)

pub IsFilled-caused : (chain : List Profile) (first more : ℕ) (s : Stage) → IsLawfulStage chain first s → IsCausedStage chain s → size s.branches ≡ suc more → 0 < length s.branches → IsFilled chain first s
IsFilled-caused chain first more s l c count some =
    let next = first + size s.branches in
    let st = l.stands in
    let step : (q : ℕ) → first ≤ q → q < next → IsNext chain q (up_to q s.branches) (up_to (q + 1) s.branches) = λ q a z. next-of chain q s.branches (one-has_it chain first next s st c q a z) c.listed in
    let start = up_to-start first s.branches st.rise in
    let begun = begin chain first (up_to first s.branches) (up_to (first + 1) s.branches) start (step first (omega arith) (omega (arith, count))) in
    let end : first + 1 + more ≡ next = omega (arith, count) in
    let whole : up_to (first + 1 + more) s.branches ≡ s.branches = ap (λ (n : ℕ). up_to n s.branches) end ∙ up_to-end next s.branches st.end c.functions in
    record {
      more = more;
      count = count;
      begun = begun;
      filled = λ stages. fill chain stages s.branches (first + 1) more (λ q a z. step q (omega arith) (omega (arith, z, end))) ∙ ap (λ (bs : List Branch). record { stages = stages; branches = bs }) whole;
      opens = opener-is first s.branches st.rise c.functions c.listed begun;
      some = some;
      is = ap (λ (x : _). record { branches = s.branches; parts = x }) l.parts;
    }
