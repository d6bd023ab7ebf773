use Rattle.policy_lint.proofs.Denied.{version_unmet}
use Rattle.policy_lint.proofs.laws.addresses_keep_to_their_version.Goals as goal

pub returns : goal.returns
returns c = λ version fit seen h lacks. version_unmet version fit seen h lacks
