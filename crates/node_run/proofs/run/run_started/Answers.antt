use Rattle.std.proofs.Common.{◌∙◌, ap}
use Rattle.node_run.specs.Nodes.{gather}
use Rattle.node_run.specs.Runs.{flat}
use Rattle.stage_nodes.specs.Dues.{ComesFrom}
use Rattle.node_run.proofs.Running.{to_collect, counted_with}
use Rattle.node_run.proofs.run.run_started.Goals as goal

pub start_all-first-requires-clause-first : goal.start_all-first-requires-clause-first
start_all-first-requires-clause-first g c κs within = (c.requires.0, c.requires.2.deals)

pub start_all-first-requires-clause-ready : goal.start_all-first-requires-clause-ready
start_all-first-requires-clause-ready g c κs within = c.requires.2.ready

pub start_all-first-requires-clause-empty : goal.start_all-first-requires-clause-empty
start_all-first-requires-clause-empty g c κs within = c.requires.2.empty

pub deal_first-dealt-requires : goal.deal_first-dealt-requires
deal_first-dealt-requires g c = (c.requires.0, c.start_all-first.ensures.first c.requires.0 c.requires.2.deals)

pub collect-requires : goal.collect-requires
collect-requires g c = (c.requires.1, to_collect ComesFrom _ _ c.requires.1 c.requires.2.long c.requires.2.takes)

pub returns : goal.returns
returns g c copies due h = record {
  gives = c.in_ok-functions.ensures.functions ∙ ap (λ y. gather g.F.BranchWork.kit (flat y)) c.start_all-first.ensures.crews;
  told = c.in_ok-fates.ensures.fates due (to_collect ComesFrom _ _ due h.long h.takes);
  found = c.in_ok-fates.ensures.found due (to_collect ComesFrom _ _ due h.long h.takes);
  counted = λ f. counted_with _ _ _ _ _ copies f (c.deal_first-dealt.ensures copies (c.start_all-first.ensures.first copies h.deals)) c.in_ok-functions.ensures.found (ap flat c.start_all-first.ensures.crews) (c.in_ok-functions.ensures.counted f);
}
