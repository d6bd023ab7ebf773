-- Believed: what a policy runs: its chains, each cut into pieces, with its functions in walking order. A chain with
-- a hand-written graph runs in that graph.
use Rattle.std.specs.Prelude.{ℕ, Bool, List, [], ◌∷◌, map, slice_get, Option, Some, None, Result, Ok, Err}
use Rattle.std.specs.List.{flat_map, zip}
use Rattle.std.specs.Option.{option_map_or}
use Rattle.action_profile.specs.Profiles.{profile_of}
use Rattle.policy_text.specs.declared.policy.ChainPolicy.{ChainPolicy}
use Rattle.policy_text.specs.declared.policy.FunctionDecl.{FunctionDecl}
use Rattle.policy_check.specs.declared.fault.Order.{Order}
use Rattle.policy_judge.specs.declared.fault.Refusal.{Refusal}
use Rattle.policy_judge.specs.declared.judged.Judged.{Judged}
unfoldable pub use Rattle.graph_compile.specs.Cutting.{cut}
use Rattle.graph_compile.specs.Stages.{graph_of}
use Rattle.graph_compile.specs.declared.graph.Graph.{Graph as StagedGraph}
use Rattle.graph_compile.specs.declared.graph.Stage.{Stage}
use Rattle.graph_text.specs.Graphs.{no_graph}
use Rattle.policy_text.specs.Names.{names_at}
use Rattle.net_functions.specs.Builds.{function_of}
use Rattle.net_functions.specs.declared.making.Made.{Made}
use Rattle.net_functions.specs.declared.making.Made.TheVariants as made
use Rattle.nf_tunnel.specs.Tunnels.{encapsulated, decapsulated}
use Rattle.piece_walk.specs.Pieces.{Piece, Graph, Whole}
use Rattle.policy_chains.specs.NamedFunctions.{named_behaviour}
use Rattle.policy_chains.specs.declared.named.NamedFunction.{NamedFunction}

-- What runs: the chains as they are declared, in the order of the text, the names of the functions of each, in chain
-- order, and its pieces.
pub record Chains : Type 0 where
  pub declared : List ChainPolicy
  pub names : List (List (List ℕ))
  pub pieces : List (List (Piece NamedFunction))

-- the stages of the graph in which these functions run
abbrev pub stages_of : List NamedFunction → List Stage
stages_of functions = (graph_of (map named_behaviour.profile functions)).stages

-- functions that run in the graph that is compiled for them
abbrev pub compiled : List NamedFunction → Piece NamedFunction
compiled functions = Graph (stages_of functions) functions

-- the function that is declared so, with its name; none for one that rewrites frames whole
abbrev pub named : List ℕ → Made → List NamedFunction
named name (made.Function f) = record { name = name; function = f } ∷ []
named name (made.Encap tunnel) = []
named name (made.Decap tunnel) = []

abbrev pub named_of : FunctionDecl → List NamedFunction
named_of decl = named decl.name (function_of decl)

-- the piece of declarations of which the first makes this: one that rewrites frames whole is alone
abbrev pub piece_by : Made → List FunctionDecl → Piece NamedFunction
piece_by (made.Function f) decls = compiled (flat_map named_of decls)
piece_by (made.Encap tunnel) decls = Whole (encapsulated tunnel)
piece_by (made.Decap tunnel) decls = Whole (decapsulated tunnel)

abbrev pub piece_among : List FunctionDecl → Piece NamedFunction
piece_among [] = compiled []
piece_among (decl ∷ later) = piece_by (function_of decl) (decl ∷ later)

-- the kind of a function rewrites packets whole: the chain is cut before and after it
abbrev pub is_whole : FunctionDecl → Bool
is_whole decl = (profile_of decl.kind).whole

-- the pieces of functions that are declared so, in chain order
abbrev pub pieces_among : List FunctionDecl → List (Piece NamedFunction)
pieces_among decls = map piece_among (cut is_whole decls)

-- the declaration at a place, counted from 0; none past the last
abbrev pub declared_at : List FunctionDecl → ℕ → List FunctionDecl
declared_at declared place = option_map_or (λ decl. decl ∷ []) (slice_get declared place) []

-- the pieces of the functions that are declared at these places, in this order
abbrev pub pieces_at : List FunctionDecl → List ℕ → List (Piece NamedFunction)
pieces_at declared places = pieces_among (flat_map (declared_at declared) places)

-- the functions of a piece in another graph; one that rewrites frames whole runs in none
abbrev pub by_graph : StagedGraph → Piece NamedFunction → Piece NamedFunction
by_graph graph (Graph stages functions) = Graph graph.stages functions
by_graph graph (Whole rewritten) = Whole rewritten

-- a chain of one piece in the graph that was written for it, if there is one
abbrev pub in_graph : Option StagedGraph → List (Piece NamedFunction) → List (Piece NamedFunction)
in_graph (Some graph) (piece ∷ []) = by_graph graph piece ∷ []
in_graph graph pieces = pieces

-- the names of the functions of each chain, and its pieces, by its order and the graph written for it
abbrev pub names_by : List ChainPolicy → List Order → List (List (List ℕ))
names_by chains orders = map (λ x. names_at x.0.functions x.1.positions) (zip chains orders)

abbrev pub pieces_of_one : (ChainPolicy × Order) × Option StagedGraph → List (Piece NamedFunction)
pieces_of_one x = in_graph x.1 (pieces_at x.0.0.functions x.0.1.positions)

abbrev pub pieces_by : List ChainPolicy → List Order → List (Option StagedGraph) → List (List (Piece NamedFunction))
pieces_by chains orders graphs = map pieces_of_one (zip (zip chains orders) graphs)

-- the chains of a policy, each with its order, and with the graph written for it, if there is one
abbrev pub service_among : List ChainPolicy → List Order → List (Option StagedGraph) → Chains
service_among chains orders graphs = record { declared = chains; names = names_by chains orders; pieces = pieces_by chains orders graphs }

-- the chains of a policy without fault and without hand-written graphs; a policy that is refused runs nothing
abbrev pub service_of : Result Judged Refusal → Option Chains
service_of (Ok judged) = Some (service_among judged.policy.chains judged.orders (map no_graph judged.policy.chains))
service_of (Err refusal) = None
