use Rattle.std.proofs.Common.{◌≡◌, ◌++◌, map}
use Rattle.std.specs.List.{AllByRecursion}
use Rattle.std.specs.Vec.Iter.{into_iter_items}
use Rattle.graph_compile.specs.Stages.{stage_of}
use Rattle.graph_text.specs.Soundness.{HasFewBranches}
use Rattle.graph_text.proofs.graphs.graph_of_stages.Given as goal

-- the stages so far and those that remain
abbrev pub invariant-stages : goal.invariant-stages
invariant-stages l = record {
  made : l.made ++ map (stage_of l.profiles) (into_iter_items l.branches-iterator) ≡ map (stage_of l.profiles) l.fn.stages;
  few : AllByRecursion HasFewBranches (into_iter_items l.branches-iterator);
}
