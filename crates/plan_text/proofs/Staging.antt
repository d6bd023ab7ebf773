-- A graph has no more stages than its chain has functions.
use Rattle.std.proofs.Common.{◌≡◌, ◌<◌, ◌≤◌, ◌+◌, ℕ, suc, List, [], ◌∷◌, length, arith, refl}
use Rattle.std.specs.Prelude.{slice_get, Some}
use Rattle.std.proofs.lemmas.List.{length-map}
use Rattle.std.proofs.lemmas.List.Sums.{sum_by-cons}
use Rattle.policy_text.specs.declared.policy.FunctionDecl.{FunctionDecl}
use Rattle.plan_text.specs.Plan.{profile_in, profiles_in}
use Rattle.plan_text.specs.Putting.{IsShownFor}
use Rattle.action_profile.specs.declared.rights.Profile.{Profile}
use Rattle.graph_compile.specs.declared.graph.Branch.{Branch}
use Rattle.graph_compile.specs.declared.graph.Graph.{Graph}
use Rattle.graph_compile.specs.declared.graph.Stage.{Stage}
use Rattle.graph_compile.specs.Facts.{IsFull}
use Rattle.graph_compile.specs.Lawful.{size, IsStaged}

-- branches with a function each have a function
some_function : (branches : List Branch) → 0 < length branches → ((j : ℕ) (b : Branch) → slice_get branches j ≡ Some b → 0 < length b.positions) → 0 < size branches
some_function [] some each = absurd (omega arith)
some_function (b ∷ bs) some each = let first = each 0 b refl in let is : size (b ∷ bs) ≡ length b.positions + size bs = sum_by-cons (λ (x : Branch). length x.positions) b bs in omega (arith, first, is)

rising : (chain : List Profile) (first : ℕ) (stages : List Stage) (next : ℕ) → IsStaged chain first stages next →
    ((i : ℕ) (s : Stage) → slice_get stages i ≡ Some s → 0 < length s.branches) →
    ((i j : ℕ) (s : Stage) (b : Branch) → slice_get stages i ≡ Some s → slice_get s.branches j ≡ Some b → 0 < length b.positions) →
    first + length stages ≤ next
unfolding IsStaged
rising chain first [] next staged branches functions = let is : first ≡ next = staged in omega (arith, is)
rising chain first (s ∷ stages) next staged branches functions =
    let on : IsStaged chain (first + size s.branches) stages next = staged.1 in
    let later = rising chain (first + size s.branches) stages next on (λ i. branches (suc i)) (λ i. functions (suc i)) in
    let here = some_function s.branches (branches 0 s refl) (λ j b. functions 0 j s b refl) in
    omega (arith, later, here)

pub few_stages : (graph : Graph) (chain : List Profile) → IsFull graph → IsStaged chain 1 graph.stages (suc (length chain)) → length graph.stages ≤ length chain
few_stages graph chain full staged =
    let many = rising chain 1 graph.stages (suc (length chain)) staged full.branches full.functions in
    omega (arith, many)

-- nor has one that was written for the chain
pub few_written : (functions : List FunctionDecl) (order : List ℕ) (graph : Graph) → IsShownFor functions order (Some graph) → length order ≤ 64 → 1 + length graph.stages ≤ 65
few_written functions order graph shown few =
    let many = few_stages graph (profiles_in functions order) shown.0 shown.1 in
    omega (arith, many, few, length-map order (profile_in functions))
