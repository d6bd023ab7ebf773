use Rattle.std.proofs.Common.{◌≡◌, take, map}
use Rattle.graph_text.specs.Graphs.{no_graph}
use Rattle.graph_text.proofs.graphs.no_graphs.Given as goal

-- none so far
abbrev pub invariant-chains : goal.invariant-chains
invariant-chains l = l.graphs.items ≡ map no_graph (take l.chain-index l.chains)
