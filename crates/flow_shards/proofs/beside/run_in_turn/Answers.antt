use Rattle.std.proofs.Common.{[], ◌∷◌, ◌++◌, subst, sym}
use Rattle.flow_shards.specs.Working.{AreCounted}
use Rattle.flow_shards.proofs.InTurn.{one_more}
use Rattle.flow_shards.proofs.beside.run_in_turn.Goals as goal

pub jobs-preserved : goal.jobs-preserved
jobs-preserved c =
    subst (AreCounted c.args.workers c.args.sights.now (c.jobs.yielded ++ c.in-Some.job ∷ [])) (sym c.in_ok-push.ensures.items)
    (one_more c.args.workers c.args.sights.now c.jobs.yielded c.jobs.counted.items c.in-Some.job c.count_own.result c.jobs.invariant c.count_own.ensures)
