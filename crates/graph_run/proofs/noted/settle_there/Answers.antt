use Rattle.graph_run.proofs.Settled.{settles_there, none_settles, settled_ok}
use Rattle.graph_run.proofs.noted.settle_there.Goals as goal

pub returns-then-index-functions : goal.returns-then-index-functions
returns-then-index-functions g c = settled_ok c.settle.result
    (settles_there g.F.Function.notes c.args.functions.now c.args.noted.now c.index-functions-index.result c.settle.new.self c.saturating_sub-index.result _ _ c.noted.view_is c.saturating_sub-index.ensures c.if-index-functions.true) c.settle.ensures.settled

pub returns-else-index-functions : goal.returns-else-index-functions
returns-else-index-functions g c = none_settles g.F.Function.notes c.args.functions.now c.args.noted.now c.saturating_sub-index.result _ _ c.noted.view_is c.saturating_sub-index.ensures c.if-index-functions.false
