use Rattle.nfp_run.proofs.ShownPlans.{few_ordered}
use Rattle.nfp_run.proofs.plan.push_plan.Goals as goal

pub put_chain-requires-clause-few : goal.put_chain-requires-clause-few
put_chain-requires-clause-few c = rw c.as_slice.ensures (few_ordered c.args.chain.now c.args.order.now c.requires.ordered)
