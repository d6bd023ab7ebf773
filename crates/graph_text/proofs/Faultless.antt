-- Stages of a lawful graph have no fault.
use Rattle.std.proofs.Common.{◌≡◌, ◌≢◌, ◌<◌, ◌≤◌, ◌+◌, ◌-◌, ◌∙◌, ℕ, zero, suc, Bool, true, false, ◌&&◌, ◌||◌, not, cond, List, [], ◌∷◌, length, map, Some, None, sym, ap, refl, arith}
use Rattle.std.specs.Prelude.{Option, Ok, ◌==◌, nat_le, nat_lt, slice_get, find, is_some, option_and_then}
use Rattle.std.specs.List.{list_any, range_with_len}
use Rattle.std.specs.Option.{option_map}
use Rattle.std.proofs.lemmas.Bool.{eqb-true}
use Rattle.std.proofs.lemmas.Bool.Decides.{nat_tests}
use Rattle.std.proofs.lemmas.Option.{slice_get-map}
use Rattle.action_profile.specs.declared.rights.Profile.{Profile}
use Rattle.graph_compile.specs.Facts.{times, rises, AreApart, IsLawful}
use Rattle.graph_compile.specs.Lawful.{size, Rises, EndsBelow, IsLawfulStage, IsStaged}
use Rattle.graph_compile.specs.Positions.{holds}
use Rattle.graph_compile.specs.Stages.{is_forbidden, stage_of}
use Rattle.graph_compile.specs.declared.graph.Branch.{Branch}
use Rattle.policy_text.specs.Steps.{◌>>=◌, unless}
use Rattle.graph_text.specs.Faults.{missing, is_out_of_order, out_of_order, actions_between, is_forbidden_beside, forbidden, missing_fault, order_fault, forbidden_as, table_fault, faultless}
use Rattle.graph_text.specs.Graphs.{graph_of_stages}
use Rattle.graph_text.specs.Soundness.{standing}
use Rattle.graph_text.specs.Standing.{is_in, is_placed, leads, leads_in, comes_before, are_beside_in, are_beside, least, least_behind, has_behind, least_pair}
use Rattle.graph_text.specs.declared.fault.GraphFault.{GraphFault}
use Rattle.graph_text.proofs.Lawfulness.{all_stand, same_forbidden}
use Rattle.graph_text.proofs.Leading.{any_standing}
use Rattle.graph_text.proofs.Tests.{and_true, count_none, each_at}

-- nothing is found if nothing passes
nothing : (test : ℕ → Bool) (a n : ℕ) → ((q : ℕ) → a ≤ q → q < a + n → test q ≡ false) → find test (range_with_len a n) ≡ None
nothing test a zero h = refl
nothing test a (suc n) h =
    let here : test a ≡ false = h a (omega arith) (omega arith) in
    ap (λ b. cond b (Some a) (find test (range_with_len (a + 1) n))) here ∙ nothing test (a + 1) n (λ q le lt. h q (omega arith) (omega arith))

nothing_least : (test : ℕ → Bool) (end : ℕ) → ((q : ℕ) → 1 ≤ q → q < end → test q ≡ false) → least test end ≡ None
nothing_least test end h = nothing test 1 (end - 1) (λ q le lt. h q le (omega arith))

not_both : (p q : ℕ) (b : Bool) → (p < q → b ≡ false) → (nat_lt p q && b) ≡ false
not_both p q b h = elim (nat_lt p q) as (λ t. nat_lt p q ≡ t → (t && b) ≡ false) [
  | true ↦ λ e. h (grind (arith, nat_tests))
  | false ↦ λ e. refl
] refl

nothing_behind : (test : ℕ → ℕ → Bool) (end p : ℕ) → ((q : ℕ) → p < q → q < end → test p q ≡ false) → least_behind test end p ≡ None
nothing_behind test end p h = nothing_least (λ q. nat_lt p q && test p q) end (λ q one lt. not_both p q (test p q) (λ less. h q less lt))

no_pair_at : (test : ℕ → ℕ → Bool) (end : ℕ) → ((p q : ℕ) → 1 ≤ p → p < q → q < end → test p q ≡ false) → least_pair test end ≡ None
no_pair_at test end h =
    let none : least (has_behind test end) end ≡ None = nothing_least (has_behind test end) end (λ p one lt. ap is_some (nothing_behind test end p (λ q less within. h p q one less within))) in
    ap (λ o. option_and_then {U = ℕ × ℕ} (λ p. option_map {U = ℕ × ℕ} (λ q. (p, q)) (least_behind test end p)) o) none

-- if an item passes there is one, and if one comes before another there are two
record IsAt {A : Type 0} (f : A → Bool) (xs : List A) : Type 0 where
  place : ℕ
  item : A
  there : slice_get xs place ≡ Some item
  passes : f item ≡ true

find_any : {A : Type 0} (f : A → Bool) (xs : List A) → list_any f xs ≡ true → IsAt f xs
find_any f [] e = absurd (cc)
find_any f (x ∷ xs) e =
    elim (f x) as (λ b. f x ≡ b → (b || list_any f xs) ≡ true → IsAt f (x ∷ xs)) [
      | true ↦ λ i j. record { place = 0; item = x; there = refl; passes = i }
      | false ↦ λ i j. let rest = find_any f xs j in record { place = suc rest.place; item = rest.item; there = rest.there; passes = rest.passes }
    ] refl e

record AreAt {A : Type 0} (f g : A → Bool) (xs : List A) : Type 0 where
  first : ℕ
  second : ℕ
  one : A
  other : A
  less : first < second
  one_there : slice_get xs first ≡ Some one
  other_there : slice_get xs second ≡ Some other
  one_passes : f one ≡ true
  other_passes : g other ≡ true

find_leads : {A : Type 0} (f g : A → Bool) (xs : List A) → leads f g xs ≡ true → AreAt f g xs
find_leads f g [] e = absurd (cc)
find_leads f g (x ∷ xs) e =
    elim (f x && list_any g xs) as (λ b. (f x && list_any g xs) ≡ b → (b || leads f g xs) ≡ true → AreAt f g (x ∷ xs)) [
      | true ↦ λ i j.
          let both = and_true (f x) (list_any g xs) i in
          let at = find_any g xs both.1 in
          record { first = 0; second = suc at.place; one = x; other = at.item; less = omega arith; one_there = refl; other_there = at.there; one_passes = both.0; other_passes = at.passes }
      | false ↦ λ i j.
          let rest = find_leads f g xs j in
          record { first = suc rest.first; second = suc rest.second; one = rest.one; other = rest.other; less = omega (arith, rest.less); one_there = rest.one_there; other_there = rest.other_there; one_passes = rest.one_passes; other_passes = rest.other_passes }
    ] refl e

-- numbers that rise
above_low : (xs : List ℕ) (low q : ℕ) → rises low xs ≡ true → list_any (λ x. x == q) xs ≡ true → low ≤ q
above_low [] low q h e = absurd (cc)
above_low (x ∷ xs) low q h e =
    let both = and_true (nat_le low x) (rises (suc x) xs) h in
    let le : low ≤ x = grind (arith, nat_tests, both.0) in
    elim (x == q) as (λ b. (x == q) ≡ b → (b || list_any (λ y. y == q) xs) ≡ true → low ≤ q) [
      | true ↦ λ i j. let same = eqb-true x q i in omega (arith, le, same)
      | false ↦ λ i j. let rest = above_low xs (suc x) q both.1 j in omega (arith, le, rest)
    ] refl e

leads_rises : (xs : List ℕ) (low p q : ℕ) → rises low xs ≡ true → leads (λ x. x == q) (λ x. x == p) xs ≡ true → q < p
leads_rises [] low p q h e = absurd (cc)
leads_rises (x ∷ xs) low p q h e =
    let both = and_true (nat_le low x) (rises (suc x) xs) h in
    elim ((x == q) && list_any (λ y. y == p) xs) as (λ b. ((x == q) && list_any (λ y. y == p) xs) ≡ b → (b || leads (λ y. y == q) (λ y. y == p) xs) ≡ true → q < p) [
      | true ↦ λ i j.
          let two = and_true (x == q) (list_any (λ y. y == p) xs) i in
          let same = eqb-true x q two.0 in
          let more = above_low xs (suc x) p both.1 two.1 in
          omega (arith, same, more)
      | false ↦ λ i j. leads_rises xs (suc x) p q both.1 j
    ] refl e

-- stages that follow each other
in_stage : (profiles : List Profile) (first : ℕ) (bs : List Branch) (q : ℕ) → IsLawfulStage profiles first (stage_of profiles bs) → is_in q bs ≡ true → (first ≤ q) × (q < first + size bs)
in_stage profiles first bs q lawful e =
    let at = find_any (holds q) bs e in
    let rise = each_at (Rises first) bs lawful.stands.rise at.place at.item at.there in
    let end = each_at (EndsBelow (first + size bs)) bs lawful.stands.end at.place at.item at.there in
    (above_low at.item.positions first q rise.rises at.passes, end.below q at.passes)

from_first : (profiles : List Profile) (first next : ℕ) (stages : List (List Branch)) (q : ℕ) → IsStaged profiles first (map (stage_of profiles) stages) next → list_any (is_in q) stages ≡ true → first ≤ q
unfolding IsStaged
from_first profiles first next [] q staged e = absurd (cc)
from_first profiles first next (s ∷ ss) q staged e =
    elim (is_in q s) as (λ b. is_in q s ≡ b → (b || list_any (is_in q) ss) ≡ true → first ≤ q) [
      | true ↦ λ i j. (in_stage profiles first s q staged.0 i).0
      | false ↦ λ i j. let rest = from_first profiles (first + size s) next ss q staged.1 j in omega (arith, rest)
    ] refl e

stages_lead : (profiles : List Profile) (first next : ℕ) (stages : List (List Branch)) (p q : ℕ) → IsStaged profiles first (map (stage_of profiles) stages) next → leads (is_in q) (is_in p) stages ≡ true → q < p
unfolding IsStaged
stages_lead profiles first next [] p q staged e = absurd (cc)
stages_lead profiles first next (s ∷ ss) p q staged e =
    elim (is_in q s && list_any (is_in p) ss) as (λ b. (is_in q s && list_any (is_in p) ss) ≡ b → (b || leads (is_in q) (is_in p) ss) ≡ true → q < p) [
      | true ↦ λ i j.
          let both = and_true (is_in q s) (list_any (is_in p) ss) i in
          let here = in_stage profiles first s q staged.0 both.0 in
          let there = from_first profiles (first + size s) next ss p staged.1 both.1 in
          omega (arith, here.1, there)
      | false ↦ λ i j. stages_lead profiles (first + size s) next ss p q staged.1 j
    ] refl e

-- each stage of the graph
at_map : (profiles : List Profile) (stages : List (List Branch)) (i : ℕ) (bs : List Branch) → slice_get stages i ≡ Some bs → slice_get (map (stage_of profiles) stages) i ≡ Some (stage_of profiles bs)
at_map profiles stages i bs e = slice_get-map (stage_of profiles) stages i ∙ ap (option_map (stage_of profiles)) e

branch_leads : (profiles : List Profile) (stages : List (List Branch)) (p q : ℕ) → IsLawful (graph_of_stages profiles stages) profiles → list_any (list_any (leads_in q p)) stages ≡ true → q < p
branch_leads profiles stages p q lawful e =
    let stage = find_any (list_any (leads_in q p)) stages e in
    let branch = find_any (leads_in q p) stage.item stage.passes in
    leads_rises branch.item.positions 0 p q (lawful.rising stage.place (stage_of profiles stage.item) (at_map profiles stages stage.place stage.item stage.there) branch.place branch.item branch.there) branch.passes

in_order : (profiles : List Profile) (stages : List (List Branch)) (next p q : ℕ) → IsLawful (graph_of_stages profiles stages) profiles → IsStaged profiles 1 (map (stage_of profiles) stages) next → p < q → comes_before q p stages ≡ false
in_order profiles stages next p q lawful staged less =
    elim (leads (is_in q) (is_in p) stages) as (λ b. leads (is_in q) (is_in p) stages ≡ b → (b || list_any (list_any (leads_in q p)) stages) ≡ false) [
      | true ↦ λ i. absurd (let lt = stages_lead profiles 1 next stages p q staged i in omega (arith, lt))
      | false ↦ λ i. elim (list_any (list_any (leads_in q p)) stages) as (λ b. list_any (list_any (leads_in q p)) stages ≡ b → b ≡ false) [
        | true ↦ λ j. absurd (let lt = branch_leads profiles stages p q lawful j in omega (arith, lt))
        | false ↦ λ j. refl
      ] refl
    ] refl

all_there : (profiles : List Profile) (stages : List (List Branch)) (p : ℕ) → IsLawful (graph_of_stages profiles stages) profiles → 1 ≤ p → p ≤ length profiles → is_placed p stages ≡ true
all_there profiles stages p lawful one le =
    let once : times p (standing stages) ≡ 1 = ap (times p) (sym (all_stand profiles stages)) ∙ lawful.each_once p one le in
    elim (is_placed p stages) as (λ b. is_placed p stages ≡ b → b ≡ true) [
      | true ↦ λ e. refl
      | false ↦ λ e. let none = count_none (λ x. x == p) (standing stages) (any_standing p stages ∙ e) in absurd (omega (arith, once, none))
    ] refl

differ_from : (j k : ℕ) → j < k → j ≢ k
differ_from j k less e = omega (arith, less, e)

apart_at : (profiles : List Profile) (bs : List Branch) (p q : ℕ) → AreApart profiles bs → p < q → are_beside_in p q bs ≡ true → is_forbidden profiles p q ≡ false
apart_at profiles bs p q apart less e =
    elim (leads (holds p) (holds q) bs) as (λ b. leads (holds p) (holds q) bs ≡ b → (b || leads (holds q) (holds p) bs) ≡ true → is_forbidden profiles p q ≡ false) [
      | true ↦ λ i j. let at = find_leads (holds p) (holds q) bs i in apart at.first at.second at.one at.other (differ_from at.first at.second at.less) at.one_there at.other_there p q at.one_passes at.other_passes less
      | false ↦ λ i j.
          let at = find_leads (holds q) (holds p) bs j in
          apart at.second at.first at.other at.one (λ e. differ_from at.first at.second at.less (sym e)) at.other_there at.one_there p q at.other_passes at.one_passes less
    ] refl e

free_of : (profiles : List Profile) (stages : List (List Branch)) (p q : ℕ) → IsLawful (graph_of_stages profiles stages) profiles → p < q → is_forbidden_beside profiles stages p q ≡ false
free_of profiles stages p q lawful less =
    elim (are_beside p q stages) as (λ b. are_beside p q stages ≡ b → (b && is_some (actions_between profiles p q)) ≡ false) [
      | true ↦ λ e.
          let at = find_any (are_beside_in p q) stages e in
          sym (same_forbidden profiles p q) ∙ apart_at profiles at.item p q (lawful.apart at.place (stage_of profiles at.item) (at_map profiles stages at.place at.item at.there)) less at.passes
      | false ↦ λ e. refl
    ] refl

-- no fault
all_none : (a b c : Option GraphFault) → a ≡ None → b ≡ None → c ≡ None → (unless a >>= (λ _. unless b >>= (λ _. unless c))) ≡ Ok tt
all_none None None None ea eb ec = refl
all_none (Some a) b c ea eb ec = cc
all_none None (Some b) c ea eb ec = cc
all_none None None (Some c) ea eb ec = cc

pub no_fault_left : (chain : ℕ) (order : List ℕ) (profiles : List Profile) (stages : List (List Branch)) → length profiles ≡ length order → IsLawful (graph_of_stages profiles stages) profiles →
    IsStaged profiles 1 (map (stage_of profiles) stages) (suc (length profiles)) → faultless chain order profiles stages ≡ Ok tt
unfolding faultless
no_fault_left chain order profiles stages len lawful staged =
    let end = length order + 1 in
    let none_missing : missing end stages ≡ None = nothing_least (λ p. not (is_placed p stages)) end (λ p one lt. ap not (all_there profiles stages p lawful one (omega (arith, len)))) in
    let none_ordered : out_of_order end stages ≡ None = no_pair_at (is_out_of_order stages) end (λ p q one less lt. in_order profiles stages (suc (length profiles)) p q lawful staged less) in
    let none_forbidden : forbidden end profiles stages ≡ None = no_pair_at (is_forbidden_beside profiles stages) end (λ p q one less lt. free_of profiles stages p q lawful less) in
    all_none (missing_fault chain order stages) (order_fault chain order stages) (table_fault chain order profiles stages)
    (ap (option_map _) none_missing) (ap (option_map _) none_ordered) (ap (option_and_then (forbidden_as chain order profiles)) none_forbidden)
