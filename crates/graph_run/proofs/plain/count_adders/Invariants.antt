use Rattle.std.proofs.Common.{◌≡◌}
use Rattle.graph_run.proofs.Bursting.{adders_among}
use Rattle.graph_run.proofs.plain.count_adders.Given as goal

abbrev pub invariant-loop-function : goal.invariant-loop-function
invariant-loop-function g l = l.adders ≡ adders_among g.F.Function.behaviour l.functions l.function-index
