use Rattle.policy_check.proofs.Arranging.{cycle_left}
use Rattle.policy_check.proofs.laws.every_cycle_is_found.Goals as goal

pub returns : goal.returns
returns c = cycle_left
