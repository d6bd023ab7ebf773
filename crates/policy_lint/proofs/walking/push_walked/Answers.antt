use Rattle.std.proofs.Common.{rules, get_or, refl}
use Rattle.policy_lint.proofs.Steps.{goes_on}
use Rattle.policy_lint.proofs.walking.push_walked.Goals as goal

pub order-preserved : goal.order-preserved
order-preserved c = goes_on _ c.args.order.now c.args.found.now c.order.at c.order.found c.push_place.new.found 0 (get_or c.args.order.now c.order.at 0) c.order.invariant (search rules) refl (search rules)
