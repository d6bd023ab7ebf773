use Rattle.piped_run.proofs.Taking.{Took}
use Rattle.piped_run.proofs.splitting.split_branch.Given as goal

abbrev pub invariant-loop-position : goal.invariant-loop-position
invariant-loop-position g l = Took l.fn.places l.places l.positions l.own.items l.position-index
