-- A chain that runs has few functions.
use Rattle.std.proofs.Common.{◌≡◌, ◌≤◌, List, [], ◌∷◌, length, refl, arith}
use Rattle.std.specs.Prelude.{Option, Some, None}
use Rattle.std.specs.List.{range_with_len}
use Rattle.std.proofs.lemmas.List.FromFn.{length-range_with_len}
use Rattle.std.proofs.lemmas.List.Sorted.{length_permutation}
use Rattle.policy_check.specs.declared.fault.Order.{Order}
use Rattle.policy_text.specs.declared.policy.ChainPolicy.{ChainPolicy}
use Rattle.policy_judge.specs.Orders.{IsOrdered}
use Rattle.piece_walk.specs.Pieces.{Piece, Graph, Whole}
use Rattle.segment_run.specs.Segments.{functions_count}
use Rattle.graph_compile.specs.declared.graph.Graph.{Graph as StagedGraph}
use Rattle.policy_chains.specs.Services.{in_graph}
use Rattle.policy_chains.specs.declared.named.NamedFunction.{NamedFunction}

pub few_places : (chain : ChainPolicy) (order : Order) → IsOrdered chain order → length order.positions ≤ 64
few_places chain order ordered =
    let all = length_permutation (range_with_len 0 (length chain.functions)) order.positions ordered.each_once in
    let few = ordered.few in
    omega (arith, all, few, length-range_with_len 0 (length chain.functions))

-- a graph that is written for a chain keeps its functions
same_count : (graph : Option StagedGraph) (pieces : List (Piece NamedFunction)) → functions_count (in_graph graph pieces) ≡ functions_count pieces
same_count None pieces = refl
same_count (Some graph) [] = refl
same_count (Some graph) (Graph stages functions ∷ []) = refl
same_count (Some graph) (Whole rewritten ∷ []) = refl
same_count (Some graph) (one ∷ two ∷ later) = refl

pub few_functions : (graph : Option StagedGraph) (pieces : List (Piece NamedFunction)) → functions_count pieces ≤ 64 → functions_count (in_graph graph pieces) ≤ 64
few_functions graph pieces few = omega (arith, same_count graph pieces, few)
