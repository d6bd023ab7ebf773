use Rattle.policy_lint.proofs.Covered.{covered_is_met}
use Rattle.policy_lint.proofs.laws.what_is_covered_is_met.Goals as goal

pub returns : goal.returns
returns c = λ earlier later seen h met. covered_is_met earlier later seen h met
