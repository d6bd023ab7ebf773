-- The orders of chains, and the number of branches in a stage of them.
use Rattle.std.proofs.Common.{◌<◌, ◌≤◌, ◌^◌, ℕ, zero, suc, List, [], ◌∷◌, length, arith, length-append}
use Rattle.std.specs.Prelude.{All}
use Rattle.std.specs.List.{AllByRecursion, AllZip}
use Rattle.std.proofs.lemmas.List.Elements.{All-nil}
use Rattle.graph_compile.specs.Facts.{positions_of}
use Rattle.graph_compile.specs.declared.graph.Branch.{Branch}
use Rattle.policy_check.specs.declared.fault.Order.{Order}
use Rattle.policy_text.specs.declared.policy.ChainPolicy.{ChainPolicy}
use Rattle.graph_text.specs.Chains.{functions_at, order_at}
use Rattle.graph_text.specs.Soundness.{IsOrderOf, HasFewFunctions, HasFewBranches, HasFunction, HasBranch, IsSound, standing}
use Rattle.graph_text.specs.declared.listed.Listed.{Listed}
use Rattle.graph_text.proofs.Repeats.{few_once}

few_each : (chains : List ChainPolicy) (orders : List Order) → AllZip IsOrderOf chains orders → AllByRecursion (λ (o : Order). length o.positions ≤ 64) orders
few_each [] [] h = tt
few_each [] (o ∷ os) h = absurd h
few_each (c ∷ cs) [] h = absurd h
few_each (c ∷ cs) (o ∷ os) h = (h.0.few, few_each cs os h.1)

pub few_functions : (chains : List ChainPolicy) (orders : List Order) → AllZip IsOrderOf chains orders → HasFewFunctions orders
few_functions chains orders h = record { each = few_each chains orders h }

few_from : (orders : List Order) → AllByRecursion (λ (o : Order). length o.positions ≤ 64) orders → (i : ℕ) → length (order_at orders i) ≤ 64
few_from [] h i = omega arith
few_from (o ∷ os) h zero = h.0
few_from (o ∷ os) h (suc i) = few_from os h.1 i

pub few_at : (orders : List Order) (i : ℕ) → HasFewFunctions orders → length (order_at orders i) ≤ 64
few_at orders i h = few_from orders h.each i

pub inside_at : (chains : List ChainPolicy) (orders : List Order) (i : ℕ) → AllZip IsOrderOf chains orders → All (λ p. p < length (functions_at chains i)) (order_at orders i)
inside_at [] [] i h = All-nil (λ p. p < length (functions_at [] i))
inside_at [] (o ∷ os) i h = absurd h
inside_at (c ∷ cs) [] i h = absurd h
inside_at (c ∷ cs) (o ∷ os) zero h = h.0.inside
inside_at (c ∷ cs) (o ∷ os) (suc i) h = inside_at cs os i h.1

-- each branch has a function, and no function occurs twice
long_stage : (bs : List Branch) → AllByRecursion HasFunction bs → length bs ≤ length (positions_of bs)
long_stage [] h = omega arith
long_stage (b ∷ bs) h = omega (arith, length-append b.positions (positions_of bs), h.0.some, long_stage bs h.1)

few_in_each : (most : ℕ) (stages : List (List Branch)) → AllByRecursion HasBranch stages → length (standing stages) ≤ most → most < 2 ^ 32 → AllByRecursion HasFewBranches stages
few_in_each most [] h le lt = tt
few_in_each most (s ∷ ss) h le lt =
    let all = length-append (positions_of s) (standing ss) in
    (record { few = omega (arith, all, long_stage s h.0.each) }, few_in_each most ss h.1 (omega (arith, all)) lt)

pub few_branches : (chains : List ChainPolicy) (orders : List Order) (listed : Listed) → AllZip IsOrderOf chains orders → IsSound orders listed → AllByRecursion HasFewBranches listed.stages
few_branches chains orders listed ordered sound =
    let few = few_at orders listed.chain (few_functions chains orders ordered) in
    let all = few_once (length (order_at orders listed.chain)) (standing listed.stages) sound.stages.once sound.stages.inside in
    few_in_each 65 listed.stages sound.stages.full (omega arith) (omega arith)
