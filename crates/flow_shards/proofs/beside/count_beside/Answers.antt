use Rattle.std.proofs.Common.{rules, ◌≡◌, ◌<◌, ℕ, List, length, get_or, subst}
use Rattle.std.proofs.lemmas.Result.{IfOk-weaker}
use Rattle.flow_shards.specs.Working.{IsCounted}
use Rattle.flow_shards.specs.declared.beside.Job.{Job}
use Rattle.flow_shards.proofs.Feeding.{count_counted, each_counted}
use Rattle.flow_shards.proofs.beside.count_beside.Goals as goal

pub returns-clause-count : goal.returns-clause-count
returns-clause-count g c =
    IfOk-weaker c.tables_of.result _ _
    (λ after all. count_counted c.args.tables.items after.items c.in_ok-counted.counted.items all
    (subst (λ (jobs : List Job). length c.in_ok-counted.counted.items ≡ length jobs) c.in_ok-jobs.ensures c.in_ok-counted.ensures.count))
    c.tables_of.ensures

pub returns-clause-each : goal.returns-clause-each
returns-clause-each g c =
    let workers : c.len-workers.result ≡ length c.args.tables.items = search rules in
    IfOk-weaker c.tables_of.result _ _
    (λ after all. each_counted c.args.tables.items after.items c.in_ok-counted.counted.items all c.len-workers.result c.args.sights.now workers
    (subst (λ (jobs : List Job). (k : ℕ) (d : Job) (e : _) → k < length jobs → IsCounted c.len-workers.result c.args.sights.now (get_or jobs k d) (get_or c.in_ok-counted.counted.items k e)) c.in_ok-jobs.ensures c.in_ok-counted.ensures.each))
    c.tables_of.ensures
