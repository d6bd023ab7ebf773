use Rattle.std.proofs.Common.{rules}
use Rattle.nfp_run.proofs.ShownPlans.{ordered_here, shown_here}
use Rattle.nfp_run.proofs.plan.plan_text.Goals as goal

pub push_plan-requires-clause-ordered : goal.push_plan-requires-clause-ordered
push_plan-requires-clause-ordered c = ordered_here c.as_slice-chains.result.now c.args.prepared.now.judged.policy.chains c.as_slice-orders.result.now c.args.prepared.now.judged.orders c.chains.place c.index-chains-place.result c.index-orders-place.result
    c.as_slice-chains.ensures c.as_slice-orders.ensures c.requires.ordered (search rules) (search rules) (search rules)

pub push_plan-requires-clause-shown : goal.push_plan-requires-clause-shown
push_plan-requires-clause-shown c = shown_here c.as_slice-chains.result.now c.args.prepared.now.judged.policy.chains c.as_slice-orders.result.now c.args.prepared.now.judged.orders c.as_slice-graphs.result.now c.args.prepared.now.graphs
    c.chains.place c.index-chains-place.result c.index-orders-place.result c.index-graphs-place.result
    c.as_slice-chains.ensures c.as_slice-orders.ensures c.as_slice-graphs.ensures c.requires.ordered c.requires.shown (search rules) (search rules) (search rules) (search rules)
