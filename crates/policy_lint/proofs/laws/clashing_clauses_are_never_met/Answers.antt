use Rattle.policy_lint.proofs.Clashing.{never_met}
use Rattle.policy_lint.proofs.laws.clashing_clauses_are_never_met.Goals as goal

pub returns : goal.returns
returns c = λ fit seen h real. never_met fit seen h real
