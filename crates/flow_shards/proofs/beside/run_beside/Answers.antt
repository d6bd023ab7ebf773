use Rattle.std.proofs.lemmas.Result.{IfOk-weaker}
use Rattle.flow_shards.proofs.InTurn.{as_many, each_so}
use Rattle.flow_shards.proofs.beside.run_beside.Goals as goal

pub returns-then-sights-lt-MANY-clause-count : goal.returns-then-sights-lt-MANY-clause-count
returns-then-sights-lt-MANY-clause-count g c =
    IfOk-weaker c.run_in_turn.result _ _ (λ counted all. as_many c.args.workers c.args.sights.now c.args.jobs.items counted.items all) c.run_in_turn.ensures

pub returns-then-sights-lt-MANY-clause-each : goal.returns-then-sights-lt-MANY-clause-each
returns-then-sights-lt-MANY-clause-each g c =
    IfOk-weaker c.run_in_turn.result _ _ (λ counted all. each_so c.args.workers c.args.sights.now c.args.jobs.items counted.items all) c.run_in_turn.ensures
