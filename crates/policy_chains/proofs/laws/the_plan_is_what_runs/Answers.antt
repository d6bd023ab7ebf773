use Rattle.policy_chains.proofs.Shown.{plan_runs}
use Rattle.policy_chains.proofs.laws.the_plan_is_what_runs.Goals as goal

pub returns : goal.returns
returns c = plan_runs
