-- The tests of a graph pass exactly when the five facts hold.
use Rattle.std.proofs.Common.{◌≡◌, ◌≢◌, ◌↔◌, ℕ, zero, suc, ◌+◌, ◌-◌, ◌<◌, ◌≤◌, ◌⊎◌, Bool, true, false, ◌||◌, not, List, [], ◌∷◌, ◌++◌, length, refl, sym, ap, ◌∙◌, subst, arith, Some, None, inl, inr}
use Rattle.std.specs.Prelude.{◌==◌, ◌&&◌, Option, nat_le, nat_lt, count_by, slice_get, IsTrue}
use Rattle.std.specs.List.{list_any, list_all, AllByRecursion}
use Rattle.std.proofs.lemmas.Bool.Decides.{nat_tests}
use Rattle.std.proofs.lemmas.List.Elements.{All-from_recursion, recursion_from_All}
use Rattle.std.proofs.lemmas.Option.{slice_get_within}
use Rattle.action_profile.specs.declared.rights.Profile.{Profile}
use Rattle.graph_compile.specs.declared.graph.Branch.{Branch}
use Rattle.graph_compile.specs.declared.graph.Graph.{Graph}
use Rattle.graph_compile.specs.declared.graph.Stage.{Stage}
use Rattle.graph_compile.specs.Facts.{positions_of, all_positions, times, rises, AreRising, AreApart, IsBelow, IsLawful}
use Rattle.graph_compile.specs.Judging.{stands_once, are_below, are_below_where, is_above_last, are_in_order, joins, is_joined, IsSound, AreJudged}
use Rattle.graph_compile.specs.Positions.{holds, stands}
use Rattle.graph_compile.specs.Stages.{is_forbidden}
use Rattle.graph_compile.proofs.Counting.{one_if, count-cons}
use Rattle.graph_compile.proofs.FiveFacts.{each-at, each-from, count-at, count-two, count-find, any-count, any-from_count, times-stages, rising-each}
use Rattle.graph_compile.proofs.Testing.{list_all-from, list_all-at, range_all-from, range_all-at, all-from_recursion, recursion-from_all}
use Rattle.graph_compile.proofs.Times.{times-stage}

-- a position is in a stage if it is among the stage's positions

any-append : (p : ℕ → Bool) (xs ys : List ℕ) → list_any p (xs ++ ys) ≡ (list_any p xs || list_any p ys)
any-append p [] ys = refl
any-append p (x ∷ xs) ys = let rest = any-append p xs ys in grind arith

stands-listed : (q : ℕ) (bs : List Branch) → list_any (λ x. x == q) (positions_of bs) ≡ list_any (holds q) bs
stands-listed q [] = refl
stands-listed q (b ∷ bs) = any-append (λ x. x == q) b.positions (positions_of bs) ∙ ap (λ (t : Bool). holds q b || t) (stands-listed q bs)

-- how often a position occurs

none-counted : (q : ℕ) (xs : List ℕ) → list_any (λ x. x == q) xs ≡ false → times q xs ≡ 0
none-counted q xs none =
    elim (times q xs == 0) as (λ b. (times q xs == 0) ≡ b → times q xs ≡ 0) [
      | true ↦ λ e. grind (arith, nat_tests)
      | false ↦ λ e. let some : times q xs ≢ 0 = grind (arith, nat_tests) in let any = any-from_count (λ x. x == q) xs (omega (arith, some)) in cc
    ] refl

-- one branch at most, if the stage has the position at all
stands-held : (q : ℕ) (s : Stage) → count_by (holds q) s.branches ≤ 1 → one_if (stands q s) ≡ count_by (holds q) s.branches
stands-held q s l =
    elim (stands q s) as (λ b. stands q s ≡ b → one_if b ≡ count_by (holds q) s.branches) [
      | true ↦ λ e. let some = any-count (holds q) s.branches e in omega (arith, some, l)
      | false ↦ λ e.
          elim (count_by (holds q) s.branches == 0) as (λ b. (count_by (holds q) s.branches == 0) ≡ b → 0 ≡ count_by (holds q) s.branches) [
            | true ↦ λ f. grind (arith, nat_tests)
            | false ↦ λ f. let some : count_by (holds q) s.branches ≢ 0 = grind (arith, nat_tests) in let any = any-from_count (holds q) s.branches (omega (arith, some)) in cc
          ] refl
    ] refl

abbrev are_held_once : ℕ → List Stage → Bool
are_held_once q stages = list_all (λ s. nat_le (count_by (holds q) s.branches) 1) stages

times-held : (q : ℕ) (stages : List Stage) → AllByRecursion (λ s. AreRising s.branches) stages → are_held_once q stages ≡ true → times q (all_positions stages) ≡ count_by (stands q) stages
times-held q [] r h = refl
times-held q (s ∷ stages) r h =
    let counted = times-stage q s.branches (rising-each s.branches r.0) in
    let few : count_by (holds q) s.branches ≤ 1 = grind (arith, nat_tests) in
    let here = stands-held q s few in
    let rest = times-held q stages r.1 (grind arith) in
    omega (arith, times-stages q s stages, counted, here, rest, count-cons (stands q) s stages)

held-once : (q : ℕ) (stages : List Stage) → AllByRecursion (λ s. AreRising s.branches) stages → times q (all_positions stages) ≤ 1 → are_held_once q stages ≡ true
held-once q [] r h = refl
held-once q (s ∷ stages) r h =
    let counted = times-stage q s.branches (rising-each s.branches r.0) in
    let sum = times-stages q s stages in
    let rest = held-once q stages r.1 (omega (arith, sum, h)) in
    let few : count_by (holds q) s.branches ≤ 1 = omega (arith, sum, counted, h) in
    grind (arith, nat_tests)

stage-times : (q i : ℕ) (s : Stage) (stages : List Stage) → slice_get stages i ≡ Some s → times q (positions_of s.branches) ≤ times q (all_positions stages)
stage-times q i s [] e = cc
stage-times q zero s (t ∷ stages) e =
    let same : t ≡ s = cc in
    let P : Stage → Type 0 = λ u. times q (positions_of u.branches) ≤ times q (all_positions (t ∷ stages)) in
    subst P same (omega (arith, times-stages q t stages))
stage-times q (suc i) s (t ∷ stages) e = omega (arith, times-stages q t stages, stage-times q i s stages e)

-- a stage alone

rising-tested : (bs : List Branch) → list_all (λ b. rises 0 b.positions) bs ≡ true → AreRising bs
rising-tested bs h j b e = each-at (λ b. rises 0 b.positions ≡ true) bs (recursion-from_all (λ b. rises 0 b.positions) bs h) j b e

tested-rising : (bs : List Branch) → AreRising bs → list_all (λ b. rises 0 b.positions) bs ≡ true
tested-rising bs h = all-from_recursion (λ b. rises 0 b.positions) bs (each-from (λ b. rises 0 b.positions ≡ true) bs h)

abbrev joins_at : List Profile → List Branch → Branch → ℕ → ℕ → Bool
joins_at chain bs c r q = not (is_forbidden chain q r) || holds q c || not (list_any (holds q) bs)

three-or : (a b c : Bool) → (not a || b || not c) ≡ true → a ≡ true → c ≡ true → b ≡ true
three-or a b c h e f = grind arith

apart-tested : (chain : List Profile) (bs : List Branch) → ((q : ℕ) → count_by (holds q) bs ≤ 1) → list_all (is_joined chain bs) bs ≡ true → AreApart chain bs
apart-tested chain bs once h j k b c n e f q r i a less =
    elim (is_forbidden chain q r) as (λ t. is_forbidden chain q r ≡ t → t ≡ false) [
      | true ↦ λ t.
          let joined : is_joined chain bs c ≡ true = each-at (λ b. is_joined chain bs b ≡ true) bs (recursion-from_all (is_joined chain bs) bs h) k c f in
          let at : joins chain bs c r ≡ true = list_all-at (joins chain bs c) c.positions r joined a in
          let all : joins_at chain bs c r q ≡ true = range_all-at (joins_at chain bs c r) 0 r q at (omega arith) (omega (arith, less)) in
          let some : list_any (holds q) bs ≡ true = any-from_count (holds q) bs (count-at (holds q) bs j b e i) in
          let both : holds q c ≡ true = three-or (is_forbidden chain q r) (holds q c) (list_any (holds q) bs) all t some in
          let two = count-two (holds q) bs j k b c n e f i both in
          let one = once q in
          absurd (omega (arith, two, one))
      | false ↦ λ t. refl
    ] refl

or-three : (a b c : Bool) → (a ≡ true → b ≡ false → c ≡ false) → (not a || b || not c) ≡ true
or-three false b c h = refl
or-three true true c h = refl
or-three true false c h = let e : c ≡ false = h refl refl in rw e refl

tested-apart : (chain : List Profile) (bs : List Branch) → AreApart chain bs → list_all (is_joined chain bs) bs ≡ true
tested-apart chain bs h =
    all-from_recursion (is_joined chain bs) bs (each-from (λ b. is_joined chain bs b ≡ true) bs (λ k c f.
    list_all-from (joins chain bs c) c.positions (λ r a.
    range_all-from (joins_at chain bs c r) 0 r (λ q l u.
    or-three (is_forbidden chain q r) (holds q c) (list_any (holds q) bs) (λ t o. none k c f q r a (omega (arith, u)) t o)))))
  where
    none : (k : ℕ) (c : Branch) → slice_get bs k ≡ Some c → (q r : ℕ) → holds r c ≡ true → q < r → is_forbidden chain q r ≡ true → holds q c ≡ false → list_any (holds q) bs ≡ false
    none k c f q r a less t o =
        elim (list_any (holds q) bs) as (λ x. list_any (holds q) bs ≡ x → x ≡ false) [
          | true ↦ λ x.
              let there = count-find (holds q) bs (any-count (holds q) bs x) in
              elim (there.at == k) as (λ y. (there.at == k) ≡ y → true ≡ false) [
                | true ↦ λ y.
                    let same : there.at ≡ k = grind (arith, nat_tests) in
                    let P : ℕ → Type 0 = λ m. slice_get bs m ≡ Some there.it in
                    let got : slice_get bs k ≡ Some there.it = subst P same there.there in
                    let one : there.it ≡ c = cc in
                    let held : holds q c ≡ true = ap (holds q) (sym one) ∙ there.passes in
                    cc
                | false ↦ λ y.
                    let other : there.at ≢ k = grind (arith, nat_tests) in
                    let not_so = h there.at k there.it c other there.there f q r there.passes a less in
                    cc
              ] refl
          | false ↦ λ x. refl
        ] refl

-- a stage and the next

below-tested : (s t : Stage) → are_below s.branches t.branches ≡ true → IsBelow s t
below-tested s t h q r a b =
    let here : list_all (λ r. nat_lt q r) (positions_of t.branches) ≡ true = list_all-at (λ q. list_all (λ r. nat_lt q r) (positions_of t.branches)) (positions_of s.branches) q h (stands-listed q s.branches ∙ a) in
    let less : nat_lt q r ≡ true = list_all-at (λ r. nat_lt q r) (positions_of t.branches) r here (stands-listed r t.branches ∙ b) in
    grind (arith, nat_tests)

tested-below : (s t : Stage) → IsBelow s t → are_below s.branches t.branches ≡ true
tested-below s t h =
    list_all-from (λ q. list_all (λ r. nat_lt q r) (positions_of t.branches)) (positions_of s.branches) (λ q a.
    list_all-from (λ r. nat_lt q r) (positions_of t.branches) (λ r b.
    let less = h q r (sym (stands-listed q s.branches) ∙ a) (sym (stands-listed r t.branches) ∙ b) in
    grind (arith, nat_tests)))

where-from : (a b : Option Stage) → ((s t : Stage) → a ≡ Some s → b ≡ Some t → are_below s.branches t.branches ≡ true) → are_below_where a b ≡ true
where-from (Some s) (Some t) h = h s t refl refl
where-from (Some s) None h = refl
where-from None b h = refl

order-tested : (stages : List Stage) → are_in_order stages ≡ true → (i : ℕ) (s t : Stage) → slice_get stages i ≡ Some s → slice_get stages (suc i) ≡ Some t → IsBelow s t
order-tested stages h i s t e f =
    let within = slice_get_within stages (suc i) t f in
    let at : is_above_last stages (suc i) ≡ true = range_all-at (is_above_last stages) 1 (length stages - 1) (suc i) h (omega arith) (omega (arith, within)) in
    let last : suc i - 1 ≡ i = omega arith in
    let P : ℕ → Type 0 = λ k. are_below_where (slice_get stages k) (slice_get stages (suc i)) ≡ true in
    let got : are_below_where (slice_get stages i) (slice_get stages (suc i)) ≡ true = subst P last at in
    let Q : Option Stage → Type 0 = λ o. are_below_where o (slice_get stages (suc i)) ≡ true in
    let R : Option Stage → Type 0 = λ o. are_below_where (Some s) o ≡ true in
    below-tested s t (subst R f (subst Q e got))

tested-order : (stages : List Stage) → ((i : ℕ) (s t : Stage) → slice_get stages i ≡ Some s → slice_get stages (suc i) ≡ Some t → IsBelow s t) → are_in_order stages ≡ true
tested-order stages h =
    range_all-from (is_above_last stages) 1 (length stages - 1) (λ i l u.
    where-from (slice_get stages (i - 1)) (slice_get stages i) (λ s t e f.
    let next : i ≡ suc (i - 1) = omega (arith, l) in
    let P : ℕ → Type 0 = λ k. slice_get stages k ≡ Some t in
    tested-below s t (h (i - 1) s t e (subst P next f))))

-- all tests, and all facts

judged-lawful : (graph : Graph) (chain : List Profile) → AreJudged chain graph.stages → IsLawful graph chain
judged-lawful graph chain h = record {
  each_once = once;
  no_other = other;
  rising = λ i s e. rising-tested s.branches (sound i s e).rising;
  below = order-tested graph.stages h.order;
  apart = λ i s e. apart-tested chain s.branches (λ q. held q i s e) (sound i s e).joined;
  parts = λ i s e. (sound i s e).parts;
}
  where
    sound : (i : ℕ) (s : Stage) → slice_get graph.stages i ≡ Some s → IsSound chain s
    sound i s e = each-at (IsSound chain) graph.stages (recursion_from_All (IsSound chain) graph.stages h.sound) i s e

    rise : AllByRecursion (λ s. AreRising s.branches) graph.stages
    rise = each-from (λ s. AreRising s.branches) graph.stages (λ i s e. rising-tested s.branches (sound i s e).rising)

    once : (q : ℕ) → 1 ≤ q → q ≤ length chain → times q (all_positions graph.stages) ≡ 1
    once q l u =
        let at : stands_once q graph.stages ≡ true = range_all-at (λ q. stands_once q graph.stages) 1 (length chain + 1 - 1) q h.once l (omega (arith, u)) in
        let few : are_held_once q graph.stages ≡ true = grind arith in
        let one : count_by (stands q) graph.stages ≡ 1 = grind (arith, nat_tests) in
        times-held q graph.stages rise few ∙ one

    other : (q : ℕ) → (q < 1) ⊎ (length chain < q) → times q (all_positions graph.stages) ≡ 0
    other q out =
        none-counted q (all_positions graph.stages) (elim (list_any (λ x. x == q) (all_positions graph.stages)) as (λ b. list_any (λ x. x == q) (all_positions graph.stages) ≡ b → b ≡ false) [
          | true ↦ λ e.
              let at : (nat_le 1 q && nat_lt q (length chain + 1)) ≡ true = list_all-at (λ q. nat_le 1 q && nat_lt q (length chain + 1)) (all_positions graph.stages) q h.within e in
              let low : 1 ≤ q = grind (arith, nat_tests) in
              let high : q < length chain + 1 = grind (arith, nat_tests) in
              elim out [ inl l ↦ absurd (omega (arith, l, low)) | inr u ↦ absurd (omega (arith, u, high)) ]
          | false ↦ λ e. refl
        ] refl)

    few : (q : ℕ) → times q (all_positions graph.stages) ≤ 1
    few q =
        elim (nat_lt q 1) as (λ b. nat_lt q 1 ≡ b → times q (all_positions graph.stages) ≤ 1) [
          | true ↦ λ e. let none = other q (inl (grind (arith, nat_tests))) in omega (arith, none)
          | false ↦ λ e.
              let low : 1 ≤ q = grind (arith, nat_tests) in
              elim (nat_le q (length chain)) as (λ b. nat_le q (length chain) ≡ b → times q (all_positions graph.stages) ≤ 1) [
                | true ↦ λ f. let one = once q low (grind (arith, nat_tests)) in omega (arith, one)
                | false ↦ λ f. let none = other q (inr (grind (arith, nat_tests))) in omega (arith, none)
              ] refl
        ] refl

    held : (q i : ℕ) (s : Stage) → slice_get graph.stages i ≡ Some s → count_by (holds q) s.branches ≤ 1
    held q i s e =
        let counted = times-stage q s.branches (rising-each s.branches (rising-tested s.branches (sound i s e).rising)) in
        omega (arith, counted, stage-times q i s graph.stages e, few q)

lawful-judged : (graph : Graph) (chain : List Profile) → IsLawful graph chain → AreJudged chain graph.stages
lawful-judged graph chain h = record {
  once = range_all-from (λ q. stands_once q graph.stages) 1 (length chain + 1 - 1) (λ q l u. once q l (omega (arith, u)));
  within = list_all-from (λ q. nat_le 1 q && nat_lt q (length chain + 1)) (all_positions graph.stages) (λ q i. inside q (any-count (λ x. x == q) (all_positions graph.stages) i));
  order = tested-order graph.stages h.below;
  sound = All-from_recursion (IsSound chain) graph.stages (each-from (IsSound chain) graph.stages (λ i s e. record {
    rising = tested-rising s.branches (h.rising i s e);
    joined = tested-apart chain s.branches (h.apart i s e);
    parts = h.parts i s e;
  }));
}
  where
    once : (q : ℕ) → 1 ≤ q → q ≤ length chain → stands_once q graph.stages ≡ true
    once q l u =
        let rise : AllByRecursion (λ s. AreRising s.branches) graph.stages = each-from (λ s. AreRising s.branches) graph.stages h.rising in
        let one = h.each_once q l u in
        let few = held-once q graph.stages rise (omega (arith, one)) in
        let count : count_by (stands q) graph.stages ≡ 1 = sym (times-held q graph.stages rise few) ∙ one in
        grind (arith, nat_tests)

    inside : (q : ℕ) → 1 ≤ times q (all_positions graph.stages) → (nat_le 1 q && nat_lt q (length chain + 1)) ≡ true
    inside q some =
        elim (nat_lt q 1) as (λ b. nat_lt q 1 ≡ b → (nat_le 1 q && nat_lt q (length chain + 1)) ≡ true) [
          | true ↦ λ e. let none = h.no_other q (inl (grind (arith, nat_tests))) in absurd (omega (arith, none, some))
          | false ↦ λ e.
              elim (nat_lt (length chain) q) as (λ b. nat_lt (length chain) q ≡ b → (nat_le 1 q && nat_lt q (length chain + 1)) ≡ true) [
                | true ↦ λ f. let none = h.no_other q (inr (grind (arith, nat_tests))) in absurd (omega (arith, none, some))
                | false ↦ λ f. grind (arith, nat_tests)
              ] refl
        ] refl

-- an answer that is true exactly when all tests pass is true exactly when the five facts hold
pub lawful-answer : (answer : Bool) (graph : Graph) (chain : List Profile) → IsTrue answer ↔ AreJudged chain graph.stages → IsTrue answer ↔ IsLawful graph chain
lawful-answer answer graph chain h = (λ e. judged-lawful graph chain (h.0 e), λ l. h.1 (lawful-judged graph chain l))
