use Rattle.std.specs.Vec.Iter.{into_iter_items}
use Rattle.node_run.proofs.Crewing.{AreEnding}
use Rattle.node_run.proofs.crew.end_all.Given as goal

abbrev pub invariant-loop-node : goal.invariant-loop-node
invariant-loop-node g l =
    (goal.iterator-loop-node g).can_next l.node-iterator ×
    (goal.iterator-loop-node g).is_finite l.node-iterator ×
    AreEnding g.F.BranchWork.kit g.F.BranchWork.may l.fn.nodes.items (into_iter_items l.node-iterator) l.functions.items l.tally l.short
