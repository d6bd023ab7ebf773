use Rattle.std.specs.Prelude.{length}
use Rattle.chain_walk.specs.Counting.{quiet}
use Rattle.piped_run.proofs.Taking.{TookStage}
use Rattle.piped_run.proofs.works.begin_branches.Given as goal

abbrev pub invariant-loop-branch : goal.invariant-loop-branch
invariant-loop-branch g l = TookStage (quiet g.F.Function.behaviour) (length l.numbers) l.fn.places l.places l.branches l.works.items l.branch-index
