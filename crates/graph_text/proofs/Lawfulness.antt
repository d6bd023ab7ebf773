-- Stages without fault make a lawful graph.
use Rattle.std.proofs.Common.{◌≡◌, ◌≢◌, ◌<◌, ◌≤◌, ◌+◌, ◌∙◌, ℕ, suc, Bool, true, false, ◌&&◌, not, List, [], ◌∷◌, ◌++◌, length, map, Some, None, sym, ap, refl, arith, subst, inl, inr}
use Rattle.std.specs.Prelude.{Option, Ok, ⊤, ◌⊎◌, ◌==◌, nat_le, nat_lt, slice_get, flat_map, is_some, option_and_then}
use Rattle.std.specs.List.{list_any, AllByRecursion}
use Rattle.std.specs.Option.{option_map}
use Rattle.std.proofs.lemmas.Bool.{eq-eqb}
use Rattle.std.proofs.lemmas.Bool.Decides.{nat_tests}
use Rattle.std.proofs.lemmas.Grind.{flat_map-append}
use Rattle.std.proofs.lemmas.Option.{slice_get-map}
use Rattle.action_profile.specs.declared.rights.Profile.{Profile}
use Rattle.dependency_table.specs.Table.{pair_of, is_allowed}
use Rattle.dependency_table.specs.declared.action.Answer.{Answer}
use Rattle.dependency_table.specs.declared.action.Answer.TheVariants as answers
use Rattle.graph_compile.specs.Facts.{positions_of, all_positions, times, rises, AreRising, AreApart, IsBelow, IsLawful, IsFull}
use Rattle.graph_compile.specs.Parts.{profile_at, stage_parts}
use Rattle.graph_compile.specs.Positions.{holds}
use Rattle.graph_compile.specs.Stages.{is_forbidden, is_forbidden_pair, stage_of}
use Rattle.graph_compile.specs.declared.graph.Branch.{Branch}
use Rattle.graph_compile.specs.declared.graph.Stage.{Stage}
use Rattle.policy_text.specs.Steps.{◌>>=◌, unless}
use Rattle.graph_text.specs.Faults.{missing, is_out_of_order, out_of_order, actions_in, actions_between, is_forbidden_beside, forbidden, missing_fault, order_fault, forbidden_as, table_fault, faultless}
use Rattle.graph_text.specs.Graphs.{graph_of_stages}
use Rattle.graph_text.specs.Soundness.{HasFunction, HasBranch, AreSound, standing}
use Rattle.graph_text.specs.Standing.{is_in, is_placed, repeats, leads, leads_in, comes_before, are_beside_in, are_beside}
use Rattle.graph_text.specs.declared.fault.GraphFault.{GraphFault}
use Rattle.graph_text.proofs.Finding.{none_least, no_pair, pair_passes}
use Rattle.graph_text.proofs.Leading.{leads_at, leads_first, leads_second, any_standing, leads_itself}
use Rattle.graph_text.proofs.Repeats.{part_once, times_once}
use Rattle.graph_text.proofs.Tests.{or_false, or_left, or_right, and_both, and_true, not_false, any_at, each_at, all_from, all_at, count_none, count_some}

-- Each of this number of functions is there, none against the order, none beside one that is forbidden before it.
pub record AreFaultless (count : ℕ) (profiles : List Profile) (stages : List (List Branch)) : Type 0 where
  pub placed : (p : ℕ) → 1 ≤ p → p ≤ count → is_placed p stages ≡ true
  pub ordered : (p q : ℕ) → 1 ≤ p → p < q → q ≤ count → comes_before q p stages ≡ false
  pub free : (p q : ℕ) → 1 ≤ p → p < q → q ≤ count → is_forbidden_beside profiles stages p q ≡ false

-- what no fault means
unless_ok : {E : Type 0} (o : Option E) (u : ⊤) → unless o ≡ Ok u → o ≡ None
unless_ok None u e = refl
unless_ok (Some fault) u e = cc

each_ok : (a b c : Option GraphFault) (u : ⊤) → (unless a >>= (λ _. unless b >>= (λ _. unless c))) ≡ Ok u → (a ≡ None) × (b ≡ None) × (c ≡ None)
each_ok None None c u e = (refl, refl, unless_ok c u e)
each_ok None (Some b) c u e = absurd (cc)
each_ok (Some a) b c u e = absurd (cc)

none_mapped : {A B : Type 0} (f : A → B) (o : Option A) → option_map f o ≡ None → o ≡ None
none_mapped f None e = refl
none_mapped f (Some x) e = absurd (cc)

none_as : (chain : ℕ) (order : List ℕ) (profiles : List Profile) (stages : List (List Branch)) (o : Option (ℕ × ℕ)) → forbidden (length order + 1) profiles stages ≡ o →
    option_and_then (forbidden_as chain order profiles) o ≡ None → o ≡ None
none_as chain order profiles stages None is e = refl
none_as chain order profiles stages (Some (a, b)) is e =
    let passes = pair_passes (is_forbidden_beside profiles stages) (length order + 1) a b is in
    let some = (and_true (are_beside a b stages) (is_some (actions_between profiles a b)) passes).1 in
    let none = none_mapped _ (actions_between profiles a b) e in
    absurd (neither (actions_between profiles a b) some none)
  where
    neither : {A : Type 0} (o : Option A) → is_some o ≡ true → o ≡ None → ⊥
    neither None some e = cc
    neither (Some x) some e = cc

pub no_fault : (chain : ℕ) (order : List ℕ) (profiles : List Profile) (stages : List (List Branch)) (u : ⊤) → faultless chain order profiles stages ≡ Ok u → AreFaultless (length order) profiles stages
unfolding faultless
no_fault chain order profiles stages u e =
    let ok = each_ok (missing_fault chain order stages) (order_fault chain order stages) (table_fault chain order profiles stages) u e in
    let end = length order + 1 in
    let none_missing : missing end stages ≡ None = none_mapped _ (missing end stages) ok.0 in
    let none_ordered : out_of_order end stages ≡ None = none_mapped _ (out_of_order end stages) ok.1 in
    let none_forbidden : forbidden end profiles stages ≡ None = none_as chain order profiles stages (forbidden end profiles stages) refl ok.2 in
    record {
      placed = λ p one le. not_false (is_placed p stages) (none_least (λ p. not (is_placed p stages)) end p none_missing one (omega arith));
      ordered = λ p q one less le. no_pair (is_out_of_order stages) end p q none_ordered one less (omega arith);
      free = λ p q one less le. no_pair (is_forbidden_beside profiles stages) end p q none_forbidden one less (omega arith);
    }

-- the positions of a graph are those in its branches
pub all_stand : (profiles : List Profile) (stages : List (List Branch)) → all_positions (map (stage_of profiles) stages) ≡ standing stages
all_stand profiles [] = refl
all_stand profiles (s ∷ ss) =
    flat_map-append (λ (b : Branch). b.positions) s (flat_map (λ (t : Stage). t.branches) (map (stage_of profiles) ss)) ∙ ap (λ xs. positions_of s ++ xs) (all_stand profiles ss)

stands_once : (count : ℕ) (profiles : List Profile) (stages : List (List Branch)) → AreSound count stages → AreFaultless count profiles stages → (q : ℕ) → 1 ≤ q → q ≤ count → times q (standing stages) ≡ 1
stands_once count profiles stages sound free q one le =
    omega (arith, times_once q (standing stages) sound.once, count_some (λ x. x == q) (standing stages) (any_standing q stages ∙ free.placed q one le))

within : (count : ℕ) (stages : List (List Branch)) (q : ℕ) → AreSound count stages → is_placed q stages ≡ true → (1 ≤ q) × (q ≤ count)
within count stages q sound e =
    let stands = any_standing q stages ∙ e in
    (all_at (λ p. 1 ≤ p) (standing stages) q sound.above stands, all_at (λ p. p ≤ count) (standing stages) q sound.inside stands)

stands_nowhere : (count : ℕ) (stages : List (List Branch)) → AreSound count stages → (q : ℕ) → (q < 1) ⊎ (count < q) → times q (standing stages) ≡ 0
stands_nowhere count stages sound q out = count_none (λ x. x == q) (standing stages) (any_standing q stages ∙ not_placed (is_placed q stages) refl)
  where
    not_placed : (b : Bool) → is_placed q stages ≡ b → is_placed q stages ≡ false
    not_placed false e = e
    not_placed true e =
        let inside = within count stages q sound e in
        absurd (elim out [ inl low ↦ omega (arith, inside.0) | inr high ↦ omega (arith, inside.1) ])

-- a stage of the graph, and of the stages
record IsStageAt (profiles : List Profile) (stages : List (List Branch)) (i : ℕ) (s : Stage) : Type 0 where
  branches : List Branch
  there : slice_get stages i ≡ Some branches
  same : stage_of profiles branches ≡ s

by_map : (profiles : List Profile) (stages : List (List Branch)) (i : ℕ) (s : Stage) (o : Option (List Branch)) → slice_get stages i ≡ o → option_map (stage_of profiles) o ≡ Some s → IsStageAt profiles stages i s
by_map profiles stages i s None is e = absurd (cc)
by_map profiles stages i s (Some bs) is e = record { branches = bs; there = is; same = cc }

stage_at : (profiles : List Profile) (stages : List (List Branch)) (i : ℕ) (s : Stage) → slice_get (map (stage_of profiles) stages) i ≡ Some s → IsStageAt profiles stages i s
stage_at profiles stages i s e = by_map profiles stages i s (slice_get stages i) refl (sym (slice_get-map (stage_of profiles) stages i) ∙ e)

-- positions of a list that occur once and of which none comes before a lesser one rise
higher : (x : ℕ) (xs : List ℕ) (y : ℕ) → list_any (λ z. z == x) xs ≡ false → list_any (λ z. z == y) xs ≡ true → (y < x → ⊥) → suc x ≤ y
higher x xs y none some low =
    let P : ℕ → Type 0 = λ n. list_any (λ z. z == n) xs ≡ true in
    let differ : y ≢ x = λ e. let twice : list_any (λ z. z == x) xs ≡ true = subst P e some in cc (none, twice) in
    elim (nat_lt y x) as (λ b. nat_lt y x ≡ b → suc x ≤ y) [
      | true ↦ λ e. absurd (low (grind (arith, nat_tests)))
      | false ↦ λ e. let le : x ≤ y = grind (arith, nat_tests) in omega (arith, differ)
    ] refl

at_least : (low x : ℕ) → low ≤ x → nat_le low x ≡ true
at_least low x le = grind (arith, nat_tests)

rises_from : (xs : List ℕ) (low : ℕ) → AllByRecursion (λ x. low ≤ x) xs → repeats xs ≡ false → ((p q : ℕ) → p < q → leads (λ x. x == q) (λ x. x == p) xs ≡ true → ⊥) → rises low xs ≡ true
rises_from [] low above once order = refl
rises_from (x ∷ xs) low above once order =
    let here = or_false (list_any (λ y. y == x) xs) (repeats xs) once in
    let more = all_from (λ y. suc x ≤ y) xs (λ y i. higher x xs y here.0 i (λ lt.
    order y x lt (or_left ((x == x) && list_any (λ z. z == y) xs) (leads (λ z. z == x) (λ z. z == y) xs) (and_both (x == x) (list_any (λ z. z == y) xs) (eq-eqb x x refl) i)))) in
    let rest = rises_from xs (suc x) more here.1 (λ p q lt l. order p q lt (or_right ((x == q) && list_any (λ y. y == p) xs) (leads (λ y. y == q) (λ y. y == p) xs) l)) in
    and_both (nat_le low x) (rises (suc x) xs) (at_least low x above.0) rest

-- a statement and its negation
clash : (b : Bool) → b ≡ true → b ≡ false → ⊥
clash b e f = cc

-- a branch, and its positions
in_branch : (stages : List (List Branch)) (i j p : ℕ) (bs : List Branch) (b : Branch) → slice_get stages i ≡ Some bs → slice_get bs j ≡ Some b → holds p b ≡ true → is_placed p stages ≡ true
in_branch stages i j p bs b at in_it h = any_at (is_in p) stages i bs at (any_at (holds p) bs j b in_it h)

branch_rises : (count : ℕ) (profiles : List Profile) (stages : List (List Branch)) → AreSound count stages → AreFaultless count profiles stages →
    (i j : ℕ) (bs : List Branch) (b : Branch) → slice_get stages i ≡ Some bs → slice_get bs j ≡ Some b → rises 0 b.positions ≡ true
branch_rises count profiles stages sound free i j bs b at in_it =
    rises_from b.positions 0 (all_from (λ x. 0 ≤ x) b.positions (λ q _. omega arith)) (part_once (λ (c : Branch). c.positions) bs j b in_it (part_once positions_of stages i bs at sound.once)) (λ p q lt l.
    let one = within count stages p sound (in_branch stages i j p bs b at in_it (leads_second (λ x. x == q) (λ x. x == p) b.positions l)) in
    let two = within count stages q sound (in_branch stages i j q bs b at in_it (leads_first (λ x. x == q) (λ x. x == p) b.positions l)) in
    let before = or_right (leads (is_in q) (is_in p) stages) (list_any (list_any (leads_in q p)) stages) (any_at (list_any (leads_in q p)) stages i bs at (any_at (leads_in q p) bs j b in_it l)) in
    clash (comes_before q p stages) before (free.ordered p q one.0 lt two.1))

-- a stage, and the next
stage_below : (count : ℕ) (profiles : List Profile) (stages : List (List Branch)) → AreSound count stages → AreFaultless count profiles stages →
    (i : ℕ) (bs cs : List Branch) → slice_get stages i ≡ Some bs → slice_get stages (suc i) ≡ Some cs → (q r : ℕ) → is_in q bs ≡ true → is_in r cs ≡ true → q < r
stage_below count profiles stages sound free i bs cs at next q r here there =
    let one = within count stages r sound (any_at (is_in r) stages (suc i) cs next there) in
    let two = within count stages q sound (any_at (is_in q) stages i bs at here) in
    let differ : q ≢ r = λ e.
    let P : ℕ → Type 0 = λ n. is_in n cs ≡ true in
    clash (repeats (standing stages)) (leads_itself q stages (leads_at (is_in q) (is_in q) stages i (suc i) bs cs (omega arith) at next here (subst P (sym e) there))) sound.once in
    elim (nat_lt r q) as (λ b. nat_lt r q ≡ b → q < r) [
      | true ↦ λ e.
          let lt : r < q = grind (arith, nat_tests) in
          let before = or_left (leads (is_in q) (is_in r) stages) (list_any (list_any (leads_in q r)) stages) (leads_at (is_in q) (is_in r) stages i (suc i) bs cs (omega arith) at next here there) in
          absurd (clash (comes_before q r stages) before (free.ordered r q one.0 lt two.1))
      | false ↦ λ e. let le : q ≤ r = grind (arith, nat_tests) in omega (arith, differ)
    ] refl

-- the table's answer for two functions is the same either way
same_answer : (answer : Answer) → not (is_allowed answer) ≡ is_some (actions_in answer)
same_answer answers.Free = refl
same_answer (answers.Copy set) = refl
same_answer (answers.Forbidden a b) = refl

same_between : (o p : Option Profile) → is_forbidden_pair o p ≡ is_some (option_and_then (λ x. option_and_then (λ y. actions_in (pair_of x y)) p) o)
same_between None p = refl
same_between (Some x) None = refl
same_between (Some x) (Some y) = same_answer (pair_of x y)

pub same_forbidden : (profiles : List Profile) (p q : ℕ) → is_forbidden profiles p q ≡ is_some (actions_between profiles p q)
unfolding is_forbidden
same_forbidden profiles p q = same_between (profile_at profiles p) (profile_at profiles q)

second_false : (a b : Bool) → a ≡ true → (a && b) ≡ false → b ≡ false
second_false a b e f = rw e at f

-- two branches of a stage
beside : (bs : List Branch) (j k q r : ℕ) (b c : Branch) → j ≢ k → slice_get bs j ≡ Some b → slice_get bs k ≡ Some c → holds q b ≡ true → holds r c ≡ true → are_beside_in q r bs ≡ true
beside bs j k q r b c ne at other hq hr =
    elim (nat_lt j k) as (λ t. nat_lt j k ≡ t → are_beside_in q r bs ≡ true) [
      | true ↦ λ e.
          let lt : j < k = grind (arith, nat_tests) in
          or_left (leads (holds q) (holds r) bs) (leads (holds r) (holds q) bs) (leads_at (holds q) (holds r) bs j k b c lt at other hq hr)
      | false ↦ λ e.
          let le : k ≤ j = grind (arith, nat_tests) in
          let lt : k < j = omega (arith, ne) in
          or_right (leads (holds q) (holds r) bs) (leads (holds r) (holds q) bs) (leads_at (holds r) (holds q) bs k j c b lt other at hr hq)
    ] refl

stage_apart : (count : ℕ) (profiles : List Profile) (stages : List (List Branch)) → AreSound count stages → AreFaultless count profiles stages →
    (i : ℕ) (bs : List Branch) → slice_get stages i ≡ Some bs → AreApart profiles bs
stage_apart count profiles stages sound free i bs at j k b c ne in_b in_c q r hq hr lt =
    let one = within count stages q sound (in_branch stages i j q bs b at in_b hq) in
    let two = within count stages r sound (in_branch stages i k r bs c at in_c hr) in
    let both : are_beside q r stages ≡ true = any_at (are_beside_in q r) stages i bs at (beside bs j k q r b c ne in_b in_c hq hr) in
    same_forbidden profiles q r ∙ second_false (are_beside q r stages) (is_some (actions_between profiles q r)) both (free.free q r one.0 lt two.1)

-- the graph of stages without fault
pub lawful_made : (count : ℕ) (profiles : List Profile) (stages : List (List Branch)) → length profiles ≡ count → AreSound count stages → AreFaultless count profiles stages → IsLawful (graph_of_stages profiles stages) profiles
lawful_made count profiles stages len sound free = record {
  each_once = λ q one le. ap (times q) (all_stand profiles stages) ∙ stands_once count profiles stages sound free q one (omega arith);
  no_other = λ q out. ap (times q) (all_stand profiles stages) ∙ stands_nowhere count stages sound q (elim out [ inl low ↦ inl low | inr high ↦ inr (omega arith) ]);
  rising = λ i s e.
      let at = stage_at profiles stages i s e in
      subst (λ (t : Stage). AreRising t.branches) at.same (λ j b in_it. branch_rises count profiles stages sound free i j at.branches b at.there in_it);
  below = λ i s t e f.
      let at = stage_at profiles stages i s e in
      let next = stage_at profiles stages (suc i) t f in
      let one = stage_below count profiles stages sound free i at.branches next.branches at.there next.there in
      subst (λ (u : Stage). IsBelow u t) at.same (subst (λ (u : Stage). IsBelow (stage_of profiles at.branches) u) next.same one);
  apart = λ i s e.
      let at = stage_at profiles stages i s e in
      subst (λ (t : Stage). AreApart profiles t.branches) at.same (stage_apart count profiles stages sound free i at.branches at.there);
  parts = λ i s e.
      let at = stage_at profiles stages i s e in
      subst (λ (t : Stage). t.parts ≡ stage_parts profiles t.branches) at.same refl;
}

pub full_made : (count : ℕ) (profiles : List Profile) (stages : List (List Branch)) → AreSound count stages → IsFull (graph_of_stages profiles stages)
full_made count profiles stages sound = record {
  branches = λ i s e.
      let at = stage_at profiles stages i s e in
      subst (λ (t : Stage). 0 < length t.branches) at.same (each_at HasBranch stages sound.full i at.branches at.there).some;
  functions = λ i j s b e f.
      let at = stage_at profiles stages i s e in
      let in_it : slice_get at.branches j ≡ Some b = rw (sym at.same) at f in
      (each_at HasFunction at.branches (each_at HasBranch stages sound.full i at.branches at.there).each j b in_it).some;
}
