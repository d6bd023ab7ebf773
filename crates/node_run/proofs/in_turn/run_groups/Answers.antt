use Rattle.std.proofs.Common.{All, subst, sym}
use Rattle.std.proofs.lemmas.List.Elements.{All-head, All-tail}
use Rattle.node_run.specs.Nodes.{is_ready}
use Rattle.node_run.proofs.Wiring.{none_left}
use Rattle.node_run.proofs.Crewing.{crew_counted, crew_gathered, crews_counted, crews_gathered}
use Rattle.node_run.proofs.in_turn.run_groups.Goals as goal

pub run_group-requires-clause-ready : goal.run_group-requires-clause-ready
run_group-requires-clause-ready g c κs within = All-head (All (is_ready g.F.BranchWork.kit g.F.BranchWork.may)) c.in-Some.group _ (subst (All (All (is_ready g.F.BranchWork.kit g.F.BranchWork.may))) c.in-Some.ensures.steps.0 c.loop-group.invariant.2)

pub loop-group-preserved : goal.loop-group-preserved
loop-group-preserved g c =
    let k = g.F.BranchWork.kit in
    let e = c.in_ok-keep_crew.ensures in
    let i = c.loop-group.invariant in
    let next = c.in-Some.ensures.steps.0 in (
      tt,
      tt,
      All-tail (All (is_ready g.F.BranchWork.kit g.F.BranchWork.may)) c.in-Some.group _ (subst (All (All (is_ready g.F.BranchWork.kit g.F.BranchWork.may))) next i.2),
      crew_gathered k _ _ c.in-Some.group c.in_ok-done.done _ _ _ next c.in_ok-done.ensures e.short e.functions i.3,
      λ f. crew_counted k _ _ c.in-Some.group c.in_ok-done.done _ _ f _ next c.in_ok-done.ensures e.short (e.counted f) (i.4 f),
    )

pub returns-clause-functions : goal.returns-clause-functions
returns-clause-functions g c =
    crews_gathered g.F.BranchWork.kit _ _ _ (none_left _ _ c.in-None.ensures.steps.0 (sym c.loop-group.group-iterator.rest.ok.0)) c.loop-group.invariant.3

pub returns-clause-counted : goal.returns-clause-counted
returns-clause-counted g c f =
    crews_counted _ _ f _ (none_left _ _ c.in-None.ensures.steps.0 (sym c.loop-group.group-iterator.rest.ok.0)) (c.loop-group.invariant.4 f)
