use Rattle.std.specs.Vec.Iter.{into_iter_items}
use Rattle.chain_walk.specs.Counting.{quiet}
use Rattle.graph_run.proofs.Branching.{HasRun}
use Rattle.graph_run.proofs.NotedInStages.{BranchesNoted}
use Rattle.graph_run.proofs.stage.run_branches.Given as goal

abbrev pub invariant-loop-version : goal.invariant-loop-version
invariant-loop-version g l =
    (goal.iterator-loop-version g).can_next l.version-iterator ×
    (goal.iterator-loop-version g).is_finite l.version-iterator ×
    HasRun (quiet g.F.Function.behaviour) l.stage l.fn.whole l.fn.functions l.functions l.index l.arrivals.items (into_iter_items l.version-iterator) ×
    BranchesNoted (quiet g.F.Function.behaviour) g.F.Function.notes l.stage l.fn.whole l.fn.functions l.functions l.index l.fn.notes.items l.notes.items
