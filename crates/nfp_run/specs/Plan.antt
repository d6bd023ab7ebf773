-- Believed: the plan of a policy: what is shown of each chain, in the order of the text, by its order and graph.
use Rattle.std.specs.Prelude.{ℕ, List, Option}
use Rattle.std.specs.List.{flat_map, zip}
use Rattle.policy_text.specs.declared.policy.ChainPolicy.{ChainPolicy}
use Rattle.policy_check.specs.declared.fault.Order.{Order}
use Rattle.graph_compile.specs.declared.graph.Graph.{Graph}
use Rattle.nfp_run.specs.declared.prepared.Prepared.{Prepared}
use Rattle.plan_text.specs.Plan.{chain_plan}

-- the plans of these chains, each by its order and its graph
abbrev pub plan_of : (ChainPolicy × Order) × Option Graph → List ℕ
plan_of x = chain_plan x.0.0 x.0.1.positions x.1

abbrev pub plans : List ChainPolicy → List Order → List (Option Graph) → List ℕ
plans chains orders graphs = flat_map plan_of (zip (zip chains orders) graphs)

unfoldable pub plan_text : Prepared → List ℕ
plan_text p = plans p.judged.policy.chains p.judged.orders p.graphs
