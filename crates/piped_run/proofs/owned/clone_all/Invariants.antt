use Rattle.piped_run.proofs.Cloning.{AreAgain}
use Rattle.piped_run.proofs.owned.clone_all.Given as goal

abbrev pub invariant-loop-function : goal.invariant-loop-function
invariant-loop-function g l = AreAgain g.F.Function.behaviour l.functions l.all.items l.function-index
