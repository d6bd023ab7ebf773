use Rattle.nfp_run.proofs.ShownPlans.{IsShown}
use Rattle.nfp_run.proofs.plan.plan_text.Given as goal

abbrev pub invariant-chains : goal.invariant-chains
invariant-chains l = IsShown l.chains l.orders l.graphs l.place l.text.items
