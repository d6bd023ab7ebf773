use Rattle.policy_lint.proofs.Meant.{all_true}
use Rattle.policy_lint.proofs.laws.findings_are_true.Goals as goal

pub returns : goal.returns
returns c = λ cuts chains orders. all_true cuts chains orders
