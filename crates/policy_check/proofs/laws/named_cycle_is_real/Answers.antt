use Rattle.policy_check.proofs.Naming.{named_cycle_real, named_cycle_below, named_cycle_first}
use Rattle.policy_check.proofs.laws.named_cycle_is_real.Goals as goal

pub returns-clause-real : goal.returns-clause-real
returns-clause-real c = named_cycle_real

pub returns-clause-within : goal.returns-clause-within
returns-clause-within c = named_cycle_below

pub returns-clause-earliest_first : goal.returns-clause-earliest_first
returns-clause-earliest_first c = named_cycle_first
