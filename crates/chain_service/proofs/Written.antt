-- A graph that is written for a chain may run the functions of its one piece.
use Rattle.std.proofs.Common.{List, [], ◌∷◌, subst, sym}
use Rattle.std.specs.Prelude.{Option, Some, None}
use Rattle.action_profile.specs.declared.rights.Profile.{Profile}
use Rattle.graph_compile.specs.Facts.{IsFull, IsLawful}
use Rattle.graph_compile.specs.declared.graph.Graph.{Graph as StagedGraph}
use Rattle.graph_text.specs.Chains.{profiles_in}
use Rattle.piece_walk.specs.Pieces.{Piece, Graph, Whole}
use Rattle.policy_check.specs.declared.fault.Order.{Order}
use Rattle.policy_text.specs.declared.policy.ChainPolicy.{ChainPolicy}
use Rattle.policy_chains.specs.Profiled.{Profiled}
use Rattle.policy_chains.specs.declared.named.NamedFunction.{NamedFunction}
use Rattle.chain_service.specs.Fitting.{CanRunIn, Fits}

runs_profiled : (graph : StagedGraph) (profiles : List Profile) (pieces : List (Piece NamedFunction)) → Profiled profiles pieces →
    IsLawful graph profiles × IsFull graph → CanRunIn (Some graph) pieces
runs_profiled graph profiles [] so fits = tt
runs_profiled graph profiles (Graph stages functions ∷ []) so fits = (subst (IsLawful graph) (sym so) fits.0, fits.1)
runs_profiled graph profiles (Whole rewritten ∷ []) so fits = tt
runs_profiled graph profiles (one ∷ two ∷ later) so fits = tt

pub can_run : (chain : ChainPolicy) (order : Order) (graph : Option StagedGraph) (pieces : List (Piece NamedFunction)) →
    Profiled (profiles_in chain.functions order.positions) pieces → Fits (chain, order) graph → CanRunIn graph pieces
can_run chain order None pieces so fits = tt
can_run chain order (Some graph) pieces so fits = runs_profiled graph (profiles_in chain.functions order.positions) pieces so fits
