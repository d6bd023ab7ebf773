use Rattle.std.proofs.Common.{rules}
use Rattle.policy_judge.proofs.Ordering.{fails_so}
use Rattle.policy_judge.proofs.chains.orders_of.Goals as goal

pub returns-in-Err-clause-exact : goal.returns-in-Err-clause-exact
returns-in-Err-clause-exact c = fails_so c.args.chains.now c.chains.place c.chains.orders.items c.index-chains-place.result c.index-chains-place.result c.in-Err.fault c.chains.invariant (search rules) (search rules) c.in-Err.ensures.exact
