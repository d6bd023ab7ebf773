use Rattle.std.proofs.Common.{◌≡◌, map}
use Rattle.std.specs.List.{AllByRecursion}
use Rattle.std.specs.Vec.Iter.{into_iter_items}
use Rattle.graph_text.specs.Graphs.{graphs_with, no_graph}
use Rattle.graph_text.specs.Soundness.{IsSound}
use Rattle.graph_text.proofs.graphs.graphs_with.Given as goal

-- the graphs so far and the chains that remain decide
abbrev pub invariant-listed : goal.invariant-listed
invariant-listed l = record {
  left : graphs_with l.chains l.orders l.graphs.items (into_iter_items l.one-iterator) ≡ graphs_with l.chains l.orders (map no_graph l.chains) l.fn.listed;
  sound : AllByRecursion (IsSound l.orders) (into_iter_items l.one-iterator);
}
