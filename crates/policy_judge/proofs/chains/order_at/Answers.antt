use Rattle.policy_check.specs.Edges.{edges_of}
use Rattle.policy_judge.proofs.FewFunctions.{is_ordered}
use Rattle.policy_judge.proofs.chains.order_at.Goals as goal

pub returns-in-Ok-clause-ordered : goal.returns-in-Ok-clause-ordered
returns-in-Ok-clause-ordered c = is_ordered (edges_of c.args.chain.now.statements) c.args.chain.now c.in-Ok.order c.requires c.in-Ok.ensures.arranged
