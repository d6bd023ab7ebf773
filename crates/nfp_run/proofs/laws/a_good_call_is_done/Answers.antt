use Rattle.nfp_run.proofs.GoodCalls.{ng_run_is_done}
use Rattle.nfp_run.proofs.laws.a_good_call_is_done.Goals as goal

pub returns-clause-run_ng : goal.returns-clause-run_ng
returns-clause-run_ng c = ng_run_is_done
