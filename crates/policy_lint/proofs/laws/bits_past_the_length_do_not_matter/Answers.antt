use Rattle.policy_lint.proofs.Clashing.{same_within}
use Rattle.policy_lint.proofs.laws.bits_past_the_length_do_not_matter.Goals as goal

pub returns : goal.returns
returns c = λ prefix bits address. same_within prefix bits address
