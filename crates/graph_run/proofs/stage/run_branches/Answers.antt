use Rattle.std.proofs.Common.{rules, ◌≡◌, ◌∙◌, ◌<◌, ◌≤◌, ℕ, List, length, get_or, refl, ap, subst, sym, arith}
use Rattle.graph_compile.specs.declared.graph.Branch.{Branch}
use Rattle.std.specs.Vec.Iter.{into_iter_items}
use Rattle.chain_walk.specs.Counting.{quiet}
use Rattle.graph_run.proofs.NotedInStages.{branch_noted, branches_noted}
use Rattle.graph_run.proofs.Branching.{branches_begin, branch_inside, branch_ready_at, branch_taken}
use Rattle.graph_run.proofs.Staged.{branches_over, are_arrivals, few_arrivals, stage_ends, stage_leaves, stage_modes, stage_counted, stage_counted_up, stage_refused, nothing_left}
use Rattle.graph_run.proofs.stage.run_branches.Goals as goal

some_touches : (touches branches : ℕ) → touches ≡ branches → 0 < branches → 1 ≤ touches
some_touches touches branches same some = omega arith

few_touches : (touches branches : ℕ) → touches ≡ branches → branches ≤ 64 → touches ≤ 64
few_touches touches branches same few = omega arith

-- a lawful stage has a touch for each of its branches
pub deal-requires-clause-some : goal.deal-requires-clause-some
deal-requires-clause-some g c =
    let ready = c.requires.ready.1 in
    some_touches _ _ (c.lawful_stage_has_owners.ensures _ _ c.args.stage.now ready.lawful).touches ready.some

pub deal-requires-clause-few : goal.deal-requires-clause-few
deal-requires-clause-few g c =
    let ready = c.requires.ready.1 in
    few_touches _ _ (c.lawful_stage_has_owners.ensures _ _ c.args.stage.now ready.lawful).touches ready.few

pub deal-requires-clause-modes : goal.deal-requires-clause-modes
deal-requires-clause-modes g c = stage_modes _ _ _ c.requires.ready.1.lawful

pub returns-in_err-base-clause-refused : goal.returns-in_err-base-clause-refused
returns-in_err-base-clause-refused g c = let up = stage_refused c.args.stage.now c.args.whole _ _ (stage_modes _ _ c.args.stage.now c.requires.ready.1.lawful) c.in_err-base.ensures.refused in search rules

pub returns-in_err-arrivals-clause-refused : goal.returns-in_err-arrivals-clause-refused
returns-in_err-arrivals-clause-refused g c = let up = stage_counted_up c.args.stage.now c.args.whole _ _ (stage_modes _ _ c.args.stage.now c.requires.ready.1.lawful) c.in_ok-base.ensures.counted in search rules

pub loop-version-init : goal.loop-version-init
loop-version-init g c = (tt, tt, branches_begin _ _ _ _ _ _ _ c.in_ok-arrivals.ensures.items c.into_iter-version-iterator.ensures.into_iter_gives.0 c.in_ok-base.ensures.versions, refl)

pub bounds-branches-index : goal.bounds-branches-index
bounds-branches-index g c = subst (λ (l : List Branch). c.loop-version.index < length l) (sym c.as_slice-branches.ensures)
    (branch_inside (quiet g.F.Function.behaviour) c.args.stage.now c.args.whole c.args.functions.now c.loop-version.functions _ _ _ _ c.in-Some.version c.lawful_stage_has_owners.ensures c.loop-version.invariant.2 c.in-Some.ensures.steps.0 c.requires.ready)

pub run_branch-requires : goal.run_branch-requires
run_branch-requires g c = record {
  ready = branch_ready_at (quiet g.F.Function.behaviour) c.args.stage.now c.args.whole c.args.functions.now c.loop-version.functions _ _ _ _ c.in-Some.version c.index-branches-index.result _ c.lawful_stage_has_owners.ensures c.written_is_made.ensures.dealt
      c.loop-version.invariant.2 c.in-Some.ensures.steps.0 c.requires.ready (c.as_slice-positions.ensures ∙ ap (λ (l : List Branch). (get_or l c.loop-version.index c.index-branches-index.result).positions) c.as_slice-branches.ensures);
}

pub returns-in_err-arrival-clause-refused : goal.returns-in_err-arrival-clause-refused
returns-in_err-arrival-clause-refused g c = let up = stage_counted_up c.args.stage.now c.args.whole _ _ (stage_modes _ _ c.args.stage.now c.requires.ready.1.lawful) c.in_ok-base.ensures.counted in search rules

pub returns-in_err-push-clause-refused : goal.returns-in_err-push-clause-refused
returns-in_err-push-clause-refused g c = let up = stage_counted_up c.args.stage.now c.args.whole _ _ (stage_modes _ _ c.args.stage.now c.requires.ready.1.lawful) c.in_ok-base.ensures.counted in search rules

pub loop-version-preserved : goal.loop-version-preserved
loop-version-preserved g c = (
  tt,
  tt,
  branch_taken (quiet g.F.Function.behaviour) c.args.stage.now c.args.whole c.args.functions.now c.loop-version.functions _ _ _ _ _ _ c.in-Some.version c.in_ok-arrival.arrival c.index-branches-index.result _
      c.lawful_stage_has_owners.ensures c.written_is_made.ensures.dealt c.profiles_stay.ensures.branch (c.quiet_functions_keep_to_profiles.ensures.keeps _ g.met.F.Function.keeps) c.loop-version.invariant.2 c.in-Some.ensures.steps.0 c.requires.ready (c.as_slice-positions.ensures ∙ ap (λ (l : List Branch). (get_or l c.loop-version.index c.index-branches-index.result).positions) c.as_slice-branches.ensures)
      c.in_ok-arrival.ensures.functions c.in_ok-arrival.ensures.arrival c.in_ok-arrival.ensures.carried c.in_ok-push.ensures.items,
  branch_noted (quiet g.F.Function.behaviour) g.F.Function.notes c.args.stage.now c.args.whole c.args.functions.now c.loop-version.functions _ _ _ _ _ c.in-Some.version c.index-branches-index.result _ _ _ _
      c.lawful_stage_has_owners.ensures c.loop-version.invariant.2 c.in-Some.ensures.steps.0 c.requires.ready (c.as_slice-positions.ensures ∙ ap (λ (l : List Branch). (get_or l c.loop-version.index c.index-branches-index.result).positions) c.as_slice-branches.ensures)
      c.in_ok-arrival.ensures.functions c.loop-version.invariant.3 c.in_ok-arrival.ensures.noted,
)

pub merge-requires-clause-few : goal.merge-requires-clause-few
merge-requires-clause-few g c = few_arrivals (quiet g.F.Function.behaviour) c.args.stage.now c.args.whole c.args.functions.now c.loop-version.functions _ c.lawful_stage_has_owners.ensures
    (branches_over (quiet g.F.Function.behaviour) c.args.stage.now c.args.whole c.args.functions.now c.loop-version.functions _ _ _ c.lawful_stage_has_owners.ensures c.loop-version.invariant.2 (nothing_left (into_iter_items c.loop-version.version-iterator) _ c.in-None.ensures.steps.0 (sym c.loop-version.version-iterator.rest.ok.0)) c.requires.ready) c.requires.ready

pub merge-requires-clause-arrivals : goal.merge-requires-clause-arrivals
merge-requires-clause-arrivals g c = are_arrivals (quiet g.F.Function.behaviour) c.args.stage.now c.args.whole c.in_ok-base.base c.args.functions.now c.loop-version.functions _
    (branches_over (quiet g.F.Function.behaviour) c.args.stage.now c.args.whole c.args.functions.now c.loop-version.functions _ _ _ c.lawful_stage_has_owners.ensures c.loop-version.invariant.2 (nothing_left (into_iter_items c.loop-version.version-iterator) _ c.in-None.ensures.steps.0 (sym c.loop-version.version-iterator.rest.ok.0)) c.requires.ready)
    c.in_ok-base.ensures.base c.in_ok-base.ensures.fits c.requires.ready

pub returns-clause-functions : goal.returns-clause-functions
returns-clause-functions g c = ap (λ r. r.functions)
    (branches_over (quiet g.F.Function.behaviour) c.args.stage.now c.args.whole c.args.functions.now c.loop-version.functions _ _ _ c.lawful_stage_has_owners.ensures c.loop-version.invariant.2 (nothing_left (into_iter_items c.loop-version.version-iterator) _ c.in-None.ensures.steps.0 (sym c.loop-version.version-iterator.rest.ok.0)) c.requires.ready).same

pub returns-clause-end : goal.returns-clause-end
returns-clause-end g c = stage_ends (quiet g.F.Function.behaviour) c.args.stage.now c.args.whole c.in_ok-base.base c.args.functions.now c.loop-version.functions _ _ c.last_writer_is_greatest.ensures.unwritten c.merged_is_written_last.ensures.values
    (branches_over (quiet g.F.Function.behaviour) c.args.stage.now c.args.whole c.args.functions.now c.loop-version.functions _ _ _ c.lawful_stage_has_owners.ensures c.loop-version.invariant.2 (nothing_left (into_iter_items c.loop-version.version-iterator) _ c.in-None.ensures.steps.0 (sym c.loop-version.version-iterator.rest.ok.0)) c.requires.ready)
    c.in_ok-base.ensures.base c.in_ok-base.ensures.fits c.requires.ready c.merge.ensures.merged

pub returns-clause-leaves : goal.returns-clause-leaves
returns-clause-leaves g c = stage_leaves (quiet g.F.Function.behaviour) c.args.stage.now c.args.whole c.in_ok-base.base c.args.functions.now c.loop-version.functions _ _ c.last_writer_is_greatest.ensures.unwritten c.merged_is_written_last.ensures.values
    (branches_over (quiet g.F.Function.behaviour) c.args.stage.now c.args.whole c.args.functions.now c.loop-version.functions _ _ _ c.lawful_stage_has_owners.ensures c.loop-version.invariant.2 (nothing_left (into_iter_items c.loop-version.version-iterator) _ c.in-None.ensures.steps.0 (sym c.loop-version.version-iterator.rest.ok.0)) c.requires.ready)
    c.in_ok-base.ensures.base c.in_ok-base.ensures.fits c.merge.ensures.merged

pub returns-clause-counted : goal.returns-clause-counted
returns-clause-counted g c = stage_counted c.args.stage.now c.args.whole _ _ (stage_modes _ _ c.args.stage.now c.requires.ready.1.lawful) c.in_ok-base.ensures.counted

pub returns-clause-noted : goal.returns-clause-noted
returns-clause-noted g c = branches_noted (quiet g.F.Function.behaviour) g.F.Function.notes c.args.stage.now c.args.whole c.args.functions.now c.loop-version.functions _ _ _ _ _
    c.loop-version.invariant.2 (nothing_left (into_iter_items c.loop-version.version-iterator) _ c.in-None.ensures.steps.0 (sym c.loop-version.version-iterator.rest.ok.0)) c.loop-version.invariant.3
