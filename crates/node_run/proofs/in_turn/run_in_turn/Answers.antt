use Rattle.std.proofs.Common.{◌∙◌, All, ap, subst, sym}
use Rattle.stage_nodes.specs.Dues.{ComesFrom}
use Rattle.node_run.specs.Nodes.{gather, is_ready}
use Rattle.node_run.proofs.Crewing.{all_in_crews}
use Rattle.node_run.proofs.Running.{counted_with, to_collect}
use Rattle.node_run.proofs.in_turn.run_in_turn.Goals as goal

pub deal_first-dealt-requires : goal.deal_first-dealt-requires
deal_first-dealt-requires g c = (c.requires.run.0, c.requires.run.2.deals)

pub run_groups-requires-clause-ready : goal.run_groups-requires-clause-ready
run_groups-requires-clause-ready g c κs within = all_in_crews (is_ready g.F.BranchWork.kit g.F.BranchWork.may) _ (subst (All (is_ready g.F.BranchWork.kit g.F.BranchWork.may)) (sym c.in_ok-groups.ensures) c.requires.run.2.ready)

pub collect-requires : goal.collect-requires
collect-requires g c = (c.requires.run.1, to_collect ComesFrom _ _ c.requires.run.1 c.requires.run.2.long c.requires.run.2.takes)

pub returns : goal.returns
returns g c copies due h = record {
  gives = c.in_ok-functions.ensures.functions ∙ ap (gather g.F.BranchWork.kit) c.in_ok-groups.ensures;
  told = c.in_ok-fates.ensures.fates due (to_collect ComesFrom _ _ due h.long h.takes);
  found = c.in_ok-fates.ensures.found due (to_collect ComesFrom _ _ due h.long h.takes);
  counted = λ f. counted_with _ _ _ _ _ copies f (c.deal_first-dealt.ensures copies h.deals) c.in_ok-functions.ensures.found c.in_ok-groups.ensures (c.in_ok-functions.ensures.counted f);
}
