use Rattle.std.specs.Prelude.{length}
use Rattle.chain_walk.specs.Counting.{quiet}
use Rattle.node_run.specs.Stages.{plain_stage}
use Rattle.piped_run.proofs.Taking.{TookAll}
use Rattle.piped_run.proofs.works.begin_works.Given as goal

abbrev pub invariant-loop-stage : goal.invariant-loop-stage
invariant-loop-stage g l = TookAll (quiet g.F.Function.behaviour) plain_stage (length l.numbers) l.fn.functions.items l.places.items l.stages l.works.items l.stage-index
