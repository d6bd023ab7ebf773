use Rattle.std.proofs.Common.{ap, map, sym}
use Rattle.node_run.specs.Starts.{crew_of}
use Rattle.node_run.proofs.Wiring.{none_left}
use Rattle.node_run.proofs.Crewing.{crew_counted, crew_gathered, crews_counted, crews_gathered}
use Rattle.node_run.proofs.run.finish_all.Goals as goal

pub loop-one-preserved : goal.loop-one-preserved
loop-one-preserved g c =
    let k = g.F.BranchWork.kit in
    let e = c.in_ok-keep_crew.ensures in
    let i = c.loop-one.invariant in
    let next = ap (map crew_of) c.in-Some.ensures.steps.0 in (
      tt,
      tt,
      crew_gathered k _ _ (crew_of c.in-Some.one) c.finish.result _ _ _ next c.finish.ensures e.short e.functions i.2,
      λ f. crew_counted k _ _ (crew_of c.in-Some.one) c.finish.result _ _ f _ next c.finish.ensures e.short (e.counted f) (i.3 f),
    )

pub returns-clause-functions : goal.returns-clause-functions
returns-clause-functions g c =
    crews_gathered g.F.BranchWork.kit _ _ _ (ap (map crew_of) (none_left _ _ c.in-None.ensures.steps.0 (sym c.loop-one.one-iterator.rest.ok.0))) c.loop-one.invariant.2

pub returns-clause-counted : goal.returns-clause-counted
returns-clause-counted g c f =
    crews_counted _ _ f _ (ap (map crew_of) (none_left _ _ c.in-None.ensures.steps.0 (sym c.loop-one.one-iterator.rest.ok.0))) (c.loop-one.invariant.3 f)
