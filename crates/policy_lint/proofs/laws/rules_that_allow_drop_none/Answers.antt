use Rattle.policy_lint.proofs.Denied.{all_allowed}
use Rattle.policy_lint.proofs.laws.rules_that_allow_drop_none.Goals as goal

pub returns : goal.returns
returns c = λ rules seen h. all_allowed rules seen h
