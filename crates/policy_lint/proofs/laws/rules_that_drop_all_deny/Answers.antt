use Rattle.policy_lint.proofs.Denied.{all_denied}
use Rattle.policy_lint.proofs.laws.rules_that_drop_all_deny.Goals as goal

pub returns : goal.returns
returns c = λ default rules seen h. all_denied default rules seen h
