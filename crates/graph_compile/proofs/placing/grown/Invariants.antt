use Rattle.std.proofs.Common.{◌≡◌, map}
use Rattle.graph_compile.specs.Stages.{grown}
use Rattle.graph_compile.proofs.placing.grown.Given as goal

abbrev pub invariant-branches : goal.invariant-branches
invariant-branches l = l.next ≡ map (grown l.profiles l.position) l.yielded
