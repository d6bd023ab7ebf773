use Rattle.policy_check.proofs.Arranging.{arranged}
use Rattle.policy_check.proofs.laws.order_respects_edges.Goals as goal

pub returns : goal.returns
returns c = arranged
