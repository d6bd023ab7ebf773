use Rattle.policy_check.proofs.Choosing.{takes_earliest, none_free}
use Rattle.policy_check.proofs.laws.order_takes_the_earliest.Goals as goal

pub returns-clause-each : goal.returns-clause-each
returns-clause-each c = takes_earliest

pub returns-clause-last : goal.returns-clause-last
returns-clause-last c = none_free
