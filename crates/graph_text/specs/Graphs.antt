-- Believed: the graphs that a graph text gives to chains of a policy, or its first fault.
use Rattle.std.specs.Prelude.{ℕ, List, [], ◌∷◌, length, map, ◌==◌, nat_lt, if◌then◌else◌, slice_set, Option, Some, None, Result, Ok, Err}
use Rattle.std.specs.Str.Lossy.{utf8_valid_len}
use Rattle.graph_compile.specs.Stages.{stage_of}
use Rattle.graph_compile.specs.declared.graph.Branch.{Branch}
use Rattle.graph_compile.specs.declared.graph.Graph.{Graph}
use Rattle.action_profile.specs.declared.rights.Profile.{Profile}
use Rattle.policy_check.specs.declared.fault.Order.{Order}
use Rattle.policy_text.specs.Lines.{lines_of}
use Rattle.policy_text.specs.Steps.{◌>>=◌}
use Rattle.policy_text.specs.declared.policy.ChainPolicy.{ChainPolicy}
use Rattle.policy_text.specs.declared.policy.FunctionDecl.{FunctionDecl}
use Rattle.graph_text.specs.Chains.{functions_at, order_at, profiles_in}
use Rattle.graph_text.specs.Faults.{faultless}
use Rattle.graph_text.specs.Listing.{listed_by}
use Rattle.graph_text.specs.declared.fault.GraphFault.{GraphFault}
use Rattle.graph_text.specs.declared.fault.GraphFault.TheVariants.{TooLong, NotUtf8}
use Rattle.graph_text.specs.declared.listed.Listed.{Listed}

-- the graph of these stages, with the parts that their branches need
abbrev pub graph_of_stages : List Profile → List (List Branch) → Graph
graph_of_stages profiles stages = record { stages = map (stage_of profiles) stages }

-- the graph of a chain that is listed, or its first fault
unfoldable pub graph_due : List FunctionDecl → List ℕ → Listed → Result Graph GraphFault
graph_due functions order listed = do
  _ ← faultless listed.chain order (profiles_in functions order) listed.stages
  Ok (graph_of_stages (profiles_in functions order) listed.stages)

-- no chain has a graph yet
abbrev pub no_graph : ChainPolicy → Option Graph
no_graph chain = None

-- the graphs so far and those of these chains, or the fault of the first that has one
abbrev pub graphs_with : List ChainPolicy → List Order → List (Option Graph) → List Listed → Result (List (Option Graph)) GraphFault
graphs_with chains orders graphs [] = Ok graphs
graphs_with chains orders graphs (l ∷ listed) = do
  graph ← graph_due (functions_at chains l.chain) (order_at orders l.chain) l
  graphs_with chains orders (slice_set graphs l.chain (Some graph)) listed

-- the graph of each chain that a text in UTF-8 lists; the other chains have none
unfoldable pub graphs_of_utf8 : List ℕ → List ChainPolicy → List Order → Result (List (Option Graph)) GraphFault
graphs_of_utf8 text chains orders = do
  listed ← listed_by chains orders (lines_of text)
  graphs_with chains orders (map no_graph chains) listed

-- the same for any bytes: they have to be UTF-8 (RFC 3629); if not, the first place that isn't is reported first
unfoldable pub graphs_of_bytes : List ℕ → List ChainPolicy → List Order → Result (List (Option Graph)) GraphFault
graphs_of_bytes text chains orders =
    if utf8_valid_len text == length text then graphs_of_utf8 text chains orders else Err (NotUtf8 (utf8_valid_len text))

-- a text has at most 1,048,576 bytes
unfoldable pub graphs_of : List ℕ → List ChainPolicy → List Order → Result (List (Option Graph)) GraphFault
graphs_of text chains orders = if nat_lt 1048576 (length text) then Err TooLong else graphs_of_bytes text chains orders
