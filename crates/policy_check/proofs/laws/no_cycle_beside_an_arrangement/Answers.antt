use Rattle.policy_check.proofs.Arranging.{none_left}
use Rattle.policy_check.proofs.laws.no_cycle_beside_an_arrangement.Goals as goal

pub returns : goal.returns
returns c = none_left
