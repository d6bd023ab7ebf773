-- Believed: a policy and hand-written graphs, read: chains, each with its order and its graph, or the first fault.
use Rattle.std.specs.Prelude.{ℕ, List, map, Option, Some, None, Result, Ok, Err}
use Rattle.graph_compile.specs.declared.graph.Graph.{Graph}
use Rattle.graph_text.specs.Graphs.{graphs_of, no_graph}
use Rattle.graph_text.specs.declared.fault.GraphFault.{GraphFault}
use Rattle.policy_judge.specs.Judging.{judged}
use Rattle.policy_judge.specs.declared.fault.Refusal.{Refusal}
use Rattle.policy_judge.specs.declared.judged.Judged.{Judged}
use Rattle.capture_run.specs.ChainService.{Chains, service_among}
use Rattle.nfp_run.specs.GraphLines.{graph_line}
use Rattle.call_ending.specs.declared.ending.GraphRefusal.{GraphRefusal}
use Rattle.nfp_run.specs.declared.prepared.Prepared.{Prepared}

-- Why nothing runs and nothing is shown: the policy has a fault, or the graphs have, with the line that reports it.
pub data Unprepared : Type 0 where
  ByPolicy : Refusal → Unprepared
  ByGraph : GraphRefusal → Unprepared

-- the graphs of a policy's chains: those of a text, if one has a name among the words, and else none
abbrev pub graphs_named : Option (List ℕ) → Judged → List ℕ → Result (List (Option Graph)) GraphFault
graphs_named None policy text = Ok (map no_graph policy.policy.chains)
graphs_named (Some name) policy text = graphs_of text policy.policy.chains policy.orders

-- a policy without fault, with its graphs or their first fault
abbrev pub prepared_with : Judged → Result (List (Option Graph)) GraphFault → Result Prepared Unprepared
prepared_with policy (Ok graphs) = Ok (record { judged = policy; graphs = graphs })
prepared_with policy (Err fault) = Err (ByGraph (record { fault = fault; line = graph_line policy.policy.chains fault }))

-- the policy's faults come before those of the graphs
abbrev pub prepared_by : Option (List ℕ) → Result Judged Refusal → List ℕ → Result Prepared Unprepared
prepared_by named (Err refusal) text = Err (ByPolicy refusal)
prepared_by named (Ok policy) text = prepared_with policy (graphs_named named policy text)

abbrev pub prepared : Option (List ℕ) → List ℕ → List ℕ → Result Prepared Unprepared
prepared named policy text = prepared_by named (judged policy) text

-- the chains that run
abbrev pub chains_prepared : Prepared → Chains
chains_prepared p = service_among p.judged.policy.chains p.judged.orders p.graphs
