use Rattle.policy_check.proofs.Refusing.{named_first, none_named}
use Rattle.policy_check.proofs.laws.named_priority_is_first.Goals as goal

pub returns-clause-named : goal.returns-clause-named
returns-clause-named c = named_first

pub returns-clause-none : goal.returns-clause-none
returns-clause-none c = none_named
