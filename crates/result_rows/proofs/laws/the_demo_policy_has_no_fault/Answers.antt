use Rattle.result_rows.proofs.DemoRows.{demo_is_judged}
use Rattle.result_rows.proofs.laws.the_demo_policy_has_no_fault.Goals as goal

pub returns : goal.returns
returns c = demo_is_judged
