-- For proofs: what holds for the stages that a text lists, and for the graphs that it gives.
use Rattle.std.specs.Prelude.{◌≡◌, ◌<◌, ◌≤◌, ◌^◌, ℕ, List, length, All, Option, Some, false, slice_get}
use Rattle.action_profile.specs.declared.rights.Profile.{Profile}
use Rattle.graph_compile.specs.Facts.{positions_of}
use Rattle.graph_compile.specs.declared.graph.Branch.{Branch}
use Rattle.graph_compile.specs.declared.graph.Graph.{Graph}
use Rattle.policy_check.specs.declared.fault.Order.{Order}
use Rattle.policy_text.specs.declared.policy.ChainPolicy.{ChainPolicy}
use Rattle.std.specs.List.{flat_map, AllByRecursion}
use Rattle.graph_text.specs.Chains.{functions_at, order_at, profiles_in}
use Rattle.graph_text.specs.Standing.{repeats}
use Rattle.graph_text.specs.declared.listed.Listed.{Listed}

-- the order of a chain lists its functions, at most 64
pub record IsOrderOf (chain : ChainPolicy) (order : Order) : Type 0 where
  pub inside : All (λ p. p < length chain.functions) order.positions
  pub few : length order.positions ≤ 64

-- no chain has more than 64 functions
pub record HasFewFunctions (orders : List Order) : Type 0 where
  pub each : AllByRecursion (λ o. length o.positions ≤ 64) orders

-- a stage has fewer branches than 2^32
pub record HasFewBranches (branches : List Branch) : Type 0 where
  pub few : length branches < 2 ^ 32

-- the positions of all stages
abbrev pub standing : List (List Branch) → List ℕ
standing stages = flat_map positions_of stages

-- a branch has a function, and a stage a branch
pub record HasFunction (branch : Branch) : Type 0 where
  pub some : 0 < length branch.positions

pub record HasBranch (branches : List Branch) : Type 0 where
  pub some : 0 < length branches
  pub each : AllByRecursion HasFunction branches

-- The stages of a chain of this length: each position is the chain's and occurs once; no stage or branch is empty.
pub record AreSound (count : ℕ) (stages : List (List Branch)) : Type 0 where
  pub once : repeats (standing stages) ≡ false
  pub above : AllByRecursion (λ p. 1 ≤ p) (standing stages)
  pub inside : AllByRecursion (λ p. p ≤ count) (standing stages)
  pub full : AllByRecursion HasBranch stages

-- the same for all that is listed
pub record IsSound (orders : List Order) (listed : Listed) : Type 0 where
  pub stages : AreSound (length (order_at orders listed.chain)) listed.stages

-- something holds for each graph, for the profiles of its chain in the chain's order
abbrev pub EachGraph : (List Profile → Graph → Type 0) → List ChainPolicy → List Order → List (Option Graph) → Type 0
EachGraph P chains orders graphs =
    (i : ℕ) (graph : Graph) → slice_get graphs i ≡ Some (Some graph) → P (profiles_in (functions_at chains i) (order_at orders i)) graph
