use Rattle.policy_judge.proofs.Ordering.{IsFound}
use Rattle.policy_judge.proofs.chains.orders_of.Given as goal

abbrev pub invariant-chains : goal.invariant-chains
invariant-chains l = IsFound l.chains l.place l.orders.items
