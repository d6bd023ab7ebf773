use Rattle.std.proofs.Common.{◌≤◌, ◌∙◌, ap, length, map, subst, sym}
use Rattle.capture_run.specs.ChainServiceProofs.{FitAll}
use Rattle.graph_text.specs.Graphs.{no_graph}
use Rattle.nfp_run.proofs.DemoRuns.{policy_short}
use Rattle.nfp_run.proofs.Preparations.{none_fit}
use Rattle.nfp_run.proofs.demo.demo_service.Goals as goal

pub judge-requires : goal.judge-requires
judge-requires c = subst (λ text. length text ≤ 1048576) (sym c.policy.ensures) policy_short

pub make_service-requires-clause-fit : goal.make_service-requires-clause-fit
make_service-requires-clause-fit c =
    subst (FitAll c.in-Ok.judged.policy.chains c.in-Ok.judged.orders) (sym (c.in_ok-graphs-in-Ok.ensures ∙ ap (map no_graph) c.as_slice.ensures))
    (none_fit c.in-Ok.judged.policy.chains c.in-Ok.judged.orders c.in-Ok.ensures.ordered)
