-- Rows of causes, computed by the definitions: three graphs that each lack one point alone.
use Rattle.std.proofs.Common.{◌≡◌, ◌<◌, ◌≤◌, ℕ, zero, suc, true, false, refl, List, [], ◌∷◌, length, map, subst, arith}
use Rattle.std.specs.Prelude.{count_by}
use Rattle.std.specs.List.{AllByRecursion}
use Rattle.std.proofs.lemmas.List.Elements.{All-from_recursion}
use Rattle.std.proofs.lemmas.Option.{slice_get_within}
use Rattle.action_profile.specs.Profiles.{profile_of}
use Rattle.action_profile.specs.declared.kind.Kind.TheVariants.{Firewall, Signature, Nat}
use Rattle.action_profile.specs.declared.rights.Profile.{Profile}
use Rattle.dependency_table.specs.Actions.{all_actions, actions}
use Rattle.dependency_table.specs.Table.{pairs, first_forbidden, is_copied, copied, pair_of}
use Rattle.graph_compile.specs.Causes.{opener, IsJoinedForCause, IsClosedForCause}
use Rattle.graph_compile.specs.Facts.{rises, IsLawful, IsFull}
use Rattle.graph_compile.specs.Judging.{IsSound, AreJudged}
use Rattle.graph_compile.specs.Stages.{is_forbidden, holds_back, placed, stage_of, graph_of}
use Rattle.graph_compile.specs.declared.graph.Branch.{Branch}
use Rattle.graph_compile.specs.declared.graph.Stage.{Stage}
use Rattle.graph_compile.proofs.FiveFacts.{each-at}
use Rattle.graph_compile.proofs.Judged.{lawful-answer}
use Rattle.graph_causes.specs.Causes.{first_of, AreListed}

-- a firewall and a signature may drop a packet; a translator after them keeps a state of it
abbrev filtered : List Profile
filtered = profile_of Firewall ∷ profile_of Signature ∷ profile_of Nat ∷ []

abbrev branch : List ℕ → Branch
branch qs = record { positions = qs }

abbrev stage : List (List ℕ) → Stage
stage bs = stage_of filtered (map branch bs)

-- The rule has the first two side by side, and the translator in a stage of its own.
by_the_rule : (graph_of filtered).stages ≡ stage ((1 ∷ []) ∷ (2 ∷ []) ∷ []) ∷ stage ((3 ∷ []) ∷ []) ∷ []
unfolding graph_of placed holds_back is_forbidden pair_of first_forbidden pairs actions all_actions copied is_copied
by_the_rule = refl

-- what is said of each stage and branch, from what is computed

record IsFilled (s : Stage) : Type 0 where
  pub branches : 0 < length s.branches
  pub functions : AllByRecursion (λ b. 0 < length b.positions) s.branches

lawful-from : (stages : List Stage) → AreJudged filtered stages → IsLawful (record { stages = stages }) filtered
lawful-from stages j = (lawful-answer true (record { stages = stages }) filtered ((λ e. j), (λ l. refl))).0 refl

full-from : (stages : List Stage) → AllByRecursion IsFilled stages → IsFull (record { stages = stages })
full-from stages h = record {
  branches = λ i s e. (each-at IsFilled stages h i s e).branches;
  functions = λ i j s b e f. each-at (λ c. 0 < length c.positions) s.branches (each-at IsFilled stages h i s e).functions j b f;
}

listed-from : (stages : List Stage) → AllByRecursion (λ s. rises 0 (map first_of s.branches) ≡ true) stages → AreListed stages
listed-from stages h i s e = each-at (λ t. rises 0 (map first_of t.branches) ≡ true) stages h i s e

-- no branch has a second function
joined-from : (stages : List Stage) → AllByRecursion (λ s. AllByRecursion (λ b. length b.positions ≤ 1) s.branches) stages → IsJoinedForCause filtered stages
joined-from stages h i j k s b r e f g =
    let one = each-at (λ c. length c.positions ≤ 1) s.branches (each-at (λ t. AllByRecursion (λ c. length c.positions ≤ 1) t.branches) stages h i s e) j b f in
    let two = slice_get_within b.positions (suc k) r g in
    absurd (omega (arith, one, two))

-- All in one branch lacks only `joined`: the translator has a cause to be there, and the signature has none.
abbrev one_branch : List Stage
one_branch = stage ((1 ∷ 2 ∷ 3 ∷ []) ∷ []) ∷ []

one_branch-lawful : IsLawful (record { stages = one_branch }) filtered
unfolding is_forbidden pair_of first_forbidden pairs actions all_actions copied is_copied
one_branch-lawful = lawful-from one_branch (record { once = refl; within = refl; order = refl; sound = All-from_recursion (IsSound filtered) one_branch (record { rising = refl; joined = refl; parts = refl }, tt) })

one_branch-full : IsFull (record { stages = one_branch })
one_branch-full = full-from one_branch (record { branches = omega arith; functions = (omega arith, tt) }, tt)

one_branch-closed : IsClosedForCause filtered one_branch
one_branch-closed zero s t e f = cc
one_branch-closed (suc i) s t e f = cc

one_branch-listed : AreListed one_branch
one_branch-listed = listed-from one_branch (refl, tt)

one_branch-not_joined : IsJoinedForCause filtered one_branch → ⊥
unfolding is_forbidden pair_of first_forbidden pairs actions all_actions copied is_copied
one_branch-not_joined h = let wrong : false ≡ true = h 0 0 0 (stage ((1 ∷ 2 ∷ 3 ∷ []) ∷ [])) (branch (1 ∷ 2 ∷ 3 ∷ [])) 2 refl refl refl in cc

-- A stage for each lacks only `closed`: the signature may be beside the firewall.
abbrev three_stages : List Stage
three_stages = stage ((1 ∷ []) ∷ []) ∷ stage ((2 ∷ []) ∷ []) ∷ stage ((3 ∷ []) ∷ []) ∷ []

three_stages-lawful : IsLawful (record { stages = three_stages }) filtered
unfolding is_forbidden pair_of first_forbidden pairs actions all_actions copied is_copied
three_stages-lawful = lawful-from three_stages (record {
  once = refl;
  within = refl;
  order = refl;
  sound = All-from_recursion (IsSound filtered) three_stages (record { rising = refl; joined = refl; parts = refl }, (record { rising = refl; joined = refl; parts = refl }, (record { rising = refl; joined = refl; parts = refl }, tt)));
})

three_stages-full : IsFull (record { stages = three_stages })
three_stages-full = full-from three_stages (record { branches = omega arith; functions = (omega arith, tt) }, (record { branches = omega arith; functions = (omega arith, tt) }, (record { branches = omega arith; functions = (omega arith, tt) }, tt)))

three_stages-joined : IsJoinedForCause filtered three_stages
three_stages-joined = joined-from three_stages ((omega arith, tt), ((omega arith, tt), ((omega arith, tt), tt)))

three_stages-listed : AreListed three_stages
three_stages-listed = listed-from three_stages (refl, (refl, (refl, tt)))

three_stages-not_closed : IsClosedForCause filtered three_stages → ⊥
unfolding holds_back is_forbidden pair_of first_forbidden pairs actions all_actions copied is_copied
three_stages-not_closed h = let wrong : 2 ≤ 0 = h 0 (stage ((1 ∷ []) ∷ [])) (stage ((2 ∷ []) ∷ [])) refl refl in omega (arith, wrong)

-- The branches of the rule in another sequence lack only `listed`.
abbrev turned_round : List Stage
turned_round = stage ((2 ∷ []) ∷ (1 ∷ []) ∷ []) ∷ stage ((3 ∷ []) ∷ []) ∷ []

turned_round-lawful : IsLawful (record { stages = turned_round }) filtered
unfolding is_forbidden pair_of first_forbidden pairs actions all_actions copied is_copied
turned_round-lawful = lawful-from turned_round (record {
  once = refl;
  within = refl;
  order = refl;
  sound = All-from_recursion (IsSound filtered) turned_round (record { rising = refl; joined = refl; parts = refl }, (record { rising = refl; joined = refl; parts = refl }, tt));
})

turned_round-full : IsFull (record { stages = turned_round })
turned_round-full = full-from turned_round (record { branches = omega arith; functions = (omega arith, (omega arith, tt)) }, (record { branches = omega arith; functions = (omega arith, tt) }, tt))

turned_round-joined : IsJoinedForCause filtered turned_round
turned_round-joined = joined-from turned_round ((omega arith, (omega arith, tt)), ((omega arith, tt), tt))

turned_round-closed : IsClosedForCause filtered turned_round
unfolding holds_back is_forbidden pair_of first_forbidden pairs actions all_actions copied is_copied
turned_round-closed zero s t e f =
    let first : stage ((2 ∷ []) ∷ (1 ∷ []) ∷ []) ≡ s = cc in
    let second : stage ((3 ∷ []) ∷ []) ≡ t = cc in
    let P : Stage → Type 0 = λ x. 2 ≤ count_by (holds_back filtered (opener t.branches)) x.branches in
    let Q : Stage → Type 0 = λ x. 2 ≤ count_by (holds_back filtered (opener x.branches)) (stage ((2 ∷ []) ∷ (1 ∷ []) ∷ [])).branches in
    let two : 2 ≤ 2 = omega arith in
    subst P first (subst Q second two)
turned_round-closed (suc zero) s t e f = cc
turned_round-closed (suc (suc i)) s t e f = cc

turned_round-not_listed : AreListed turned_round → ⊥
turned_round-not_listed h = let wrong : false ≡ true = h 0 (stage ((2 ∷ []) ∷ (1 ∷ []) ∷ [])) refl in cc
