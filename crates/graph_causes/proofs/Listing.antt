-- The rule lists the branches of a stage in the order of their first functions.
use Rattle.std.proofs.Common.{◌≡◌, ◌∙◌, ℕ, zero, suc, ◌+◌, ◌<◌, ◌≤◌, Bool, true, false, cond, List, [], ◌∷◌, ◌++◌, length, map, fold, refl, ap, subst, arith}
use Rattle.std.specs.Prelude.{◌==◌, count_by, slice_index}
use Rattle.std.specs.List.{list_any, range_with_len, AllByRecursion}
use Rattle.std.proofs.lemmas.Bool.Decides.{nat_tests}
use Rattle.std.proofs.lemmas.Grind.{common_steps}
use Rattle.action_profile.specs.declared.rights.Profile.{Profile}
use Rattle.graph_compile.specs.Facts.{rises}
use Rattle.graph_compile.specs.Stages.{holds_back, alone, longer, grown, stage_of, placed, placed_by, nothing_placed, all_stages, graph_of}
use Rattle.graph_compile.specs.declared.graph.Branch.{Branch}
use Rattle.graph_compile.specs.declared.graph.Stage.{Stage}
use Rattle.graph_compile.proofs.Counting.{AllByRecursion-push, AllByRecursion-map, AllByRecursion-weaker, any-push}
use Rattle.graph_compile.proofs.Filling.{graph-full, graph-joined, graph-caused}
use Rattle.graph_compile.proofs.FiveFacts.{each-at, lawful-from_staged}
use Rattle.graph_compile.proofs.Making.{graph-staged}
use Rattle.graph_causes.specs.Causes.{first_of, IsPlacedForCause}
use Rattle.graph_causes.proofs.Before.{HasSome}
use Rattle.graph_causes.proofs.Drafts.{Draft}

record IsListed (s : Stage) : Type 0 where
  pub listed : rises 0 (map first_of s.branches) ≡ true

-- what stays true while functions are placed
record AreKept (draft : Draft) (next : ℕ) : Type 0 where
  pub closed : AllByRecursion IsListed draft.stages
  pub current : rises 0 (map first_of draft.branches) ≡ true
  pub below : (q : ℕ) → list_any (λ x. x == q) (map first_of draft.branches) ≡ true → q < next
  pub functions : AllByRecursion HasSome draft.branches

rises-push : (low p : ℕ) (xs : List ℕ) → rises low xs ≡ true → ((q : ℕ) → list_any (λ x. x == q) xs ≡ true → q < p) → low ≤ p → rises low (xs ++ p ∷ []) ≡ true
rises-push low p [] h below l = grind (arith, nat_tests)
rises-push low p (x ∷ xs) h below l =
    let here : (x == x) ≡ true = grind (arith, nat_tests) in
    let less : x < p = below x (grind arith) in
    let rest = rises-push (suc x) p xs (grind arith) (λ q i. below q (grind arith)) (omega arith) in
    grind arith

firsts-push : (bs : List Branch) (p : ℕ) → map first_of (bs ++ alone p ∷ []) ≡ map first_of bs ++ p ∷ []
firsts-push [] p = refl
firsts-push (b ∷ bs) p = ap (λ (qs : List ℕ). first_of b ∷ qs) (firsts-push bs p)

first-longer : (qs : List ℕ) (p : ℕ) → 0 < length qs → slice_index (qs ++ p ∷ []) 0 ≡ slice_index qs 0
first-longer [] p l = absurd (omega arith)
first-longer (q ∷ qs) p l = refl

first-grown : (chain : List Profile) (p : ℕ) (b : Branch) → HasSome b → first_of (grown chain p b) ≡ first_of b
first-grown chain p b h = by_test (holds_back chain p b)
  where
    by_test : (t : Bool) → slice_index (cond t (longer b p) b).positions 0 ≡ slice_index b.positions 0
    by_test true = first-longer b.positions p h.some
    by_test false = refl

firsts-grown : (chain : List Profile) (p : ℕ) (bs : List Branch) → AllByRecursion HasSome bs → map first_of (map (grown chain p) bs) ≡ map first_of bs
firsts-grown chain p [] h = refl
firsts-grown chain p (b ∷ bs) h =
    let here = first-grown chain p b h.0 in
    let rest = firsts-grown chain p bs h.1 in
    rw (here, rest) refl

some-grown : (chain : List Profile) (p : ℕ) (b : Branch) → HasSome b → HasSome (grown chain p b)
some-grown chain p b h = by_test (holds_back chain p b)
  where
    by_test : (t : Bool) → HasSome (cond t (longer b p) b)
    by_test true = record { some = let s = h.some in grind (arith, common_steps) }
    by_test false = h

alone-below : (p q : ℕ) → list_any (λ x. x == q) (p ∷ []) ≡ true → q < p + 1
alone-below p q i = let same : p ≡ q = grind (arith, nat_tests) in omega (arith, same)

kept_by : (n : ℕ) (chain : List Profile) (draft : Draft) (p : ℕ) → AreKept draft p → AreKept (placed_by n chain draft p) (p + 1)
kept_by zero chain draft p k =
    let same = firsts-push draft.branches p in
    record {
      closed = k.closed;
      current = ap (rises 0) same ∙ rises-push 0 p (map first_of draft.branches) k.current k.below (omega arith);
      below = λ q i.
          let push = any-push (λ x. x == q) (map first_of draft.branches) p in
          let j : list_any (λ x. x == q) (map first_of draft.branches ++ p ∷ []) ≡ true = subst (λ (qs : List ℕ). list_any (λ x. x == q) qs ≡ true) same i in
          elim (list_any (λ x. x == q) (map first_of draft.branches)) as (λ t. list_any (λ x. x == q) (map first_of draft.branches) ≡ t → q < p + 1) [
            | true ↦ λ e. let l = k.below q e in omega (arith, l)
            | false ↦ λ e. let is : p ≡ q = grind (arith, nat_tests) in omega (arith, is)
          ] refl;
      functions = AllByRecursion-push HasSome draft.branches (alone p) k.functions (record { some = omega arith });
    }
kept_by (suc zero) chain draft p k =
    let same = firsts-grown chain p draft.branches k.functions in
    record {
      closed = k.closed;
      current = ap (rises 0) same ∙ k.current;
      below = λ q i. let l = k.below q (subst (λ (qs : List ℕ). list_any (λ x. x == q) qs ≡ true) same i) in omega (arith, l);
      functions = AllByRecursion-map HasSome (grown chain p) draft.branches (AllByRecursion-weaker HasSome (λ b. HasSome (grown chain p b)) (some-grown chain p) draft.branches k.functions);
    }
kept_by (suc (suc n)) chain draft p k = record {
  closed = AllByRecursion-push IsListed draft.stages (stage_of chain draft.branches) k.closed (record { listed = k.current });
  current = grind (arith, nat_tests);
  below = λ q i. alone-below p q i;
  functions = (record { some = omega arith }, tt);
}

kept-placed : (chain : List Profile) (draft : Draft) (p : ℕ) → AreKept draft p → AreKept (placed chain draft p) (p + 1)
unfolding placed
kept-placed chain draft p k = kept_by (count_by (holds_back chain p) draft.branches) chain draft p k

kept-rest : (chain : List Profile) (draft : Draft) (p n : ℕ) → AreKept draft p → AreKept (fold (placed chain) draft (range_with_len p n)) (p + n)
kept-rest chain draft p zero k = let P : ℕ → Type 0 = λ m. AreKept draft m in subst P (omega arith) k
kept-rest chain draft p (suc n) k =
    let P : ℕ → Type 0 = λ m. AreKept (fold (placed chain) draft (range_with_len p (suc n))) m in
    let same : p + 1 + n ≡ p + suc n = omega arith in
    subst P same (kept-rest chain (placed chain draft p) (p + 1) n (kept-placed chain draft p k))

kept-finished : (chain : List Profile) (stages : List Stage) (bs : List Branch) (next : ℕ) → AreKept (record { stages = stages; branches = bs }) next → AllByRecursion IsListed (all_stages chain stages bs)
kept-finished chain stages [] next k = k.closed
kept-finished chain stages (b ∷ bs) next k = AllByRecursion-push IsListed stages (stage_of chain (b ∷ bs)) k.closed (record { listed = k.current })

graph-listed : (chain : List Profile) → AllByRecursion IsListed (graph_of chain).stages
unfolding graph_of
graph-listed chain =
    let draft = fold (placed chain) nothing_placed (range_with_len 1 (length chain)) in
    kept-finished chain draft.stages draft.branches (1 + length chain) (kept-rest chain nothing_placed 1 (length chain) (record { closed = tt; current = refl; below = λ q i. cc; functions = tt }))

pub graph-placed : (chain : List Profile) → IsPlacedForCause (graph_of chain) chain
graph-placed chain = record {
  lawful = lawful-from_staged (graph_of chain) chain (graph-staged chain);
  full = graph-full chain;
  joined = graph-joined chain;
  closed = graph-caused chain;
  listed = λ i s e. (each-at IsListed (graph_of chain).stages (graph-listed chain) i s e).listed;
}
