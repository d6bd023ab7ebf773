use Rattle.std.proofs.Common.{◌≡◌, ◌∙◌, ◌+◌, List, map, drop, get_or, ap, sym, subst}
use Rattle.std.specs.Prelude.{Option, IfOk}
use Rattle.std.specs.Vec.Iter.{into_iter_items}
use Rattle.graph_compile.specs.Facts.{all_positions}
use Rattle.graph_compile.specs.declared.graph.Branch.{Branch}
use Rattle.burst_law.specs.Owned.{owned_in}
use Rattle.piped_run.specs.Places.{AreBack}
use Rattle.piped_run.proofs.Taking.{wrote_back}
use Rattle.piped_run.proofs.PutBack.{all_none, all_inside, next_stage, all_more, all_back, back_in, nothing_left}
use Rattle.piped_run.proofs.returning.put_together.Goals as goal

pub loop-own-init : goal.loop-own-init
loop-own-init g c = (tt, tt, all_none (λ own. map (λ v. v.items) own.items) c.in_ok-places.places.items c.args.stages.now c.args.count c.args.owned.items _ c.into_iter-own-iterator.ensures.into_iter_gives.0 c.in_ok-places.ensures c.requires.stands c.requires.owned)

pub bounds-stages-index : goal.bounds-stages-index
bounds-stages-index g c = all_inside (λ own. map (λ v. v.items) own.items) c.loop-own.places.items c.args.stages.now c.args.count c.args.owned.items _ _ c.in-Some.own c.loop-own.index c.loop-own.invariant.2 c.in-Some.ensures.steps.0

pub put_stage-requires : goal.put_stage-requires
put_stage-requires g c =
    let next = next_stage (λ own. map (λ v. v.items) own.items) c.loop-own.places.items c.args.stages.now c.args.count c.args.owned.items _ _ c.in-Some.own c.loop-own.index c.index-stages-index.result c.requires.owned.0 c.loop-own.invariant.2 c.in-Some.ensures.steps.0 c.requires.owned.1 c.requires.owned.2 in (
      c.requires.owned.0,
      all_positions (drop (c.loop-own.index + 1) c.args.stages.now),
      back_in c.requires.owned.0 c.loop-own.places.items c.deref_mut.result.now c.as_slice.result.now (get_or c.args.stages.now c.loop-own.index c.index-stages-index.result).branches (all_positions (drop (c.loop-own.index + 1) c.args.stages.now)) c.deref_mut.ensures.value c.as_slice.ensures next.back,
      next.owns ∙ ap (λ (l : List Branch). owned_in l c.requires.owned.0) (sym c.as_slice.ensures),
    )

pub loop-own-preserved : goal.loop-own-preserved
loop-own-preserved g c = (
  tt,
  tt,
  all_more (λ own. map (λ v. v.items) own.items) c.loop-own.places.items _ c.args.stages.now c.args.count c.args.owned.items _ _ c.in-Some.own c.loop-own.index c.index-stages-index.result c.loop-own.invariant.2 c.in-Some.ensures.steps.0
      (λ functions later back owns.
      subst (λ (p : List (Option g.row.F.Denot)). AreBack functions p later) (sym (wrote_back _ c.put_stage.new.places c.loop-own.places.items (c.put_stage.auto.places ∙ c.deref_mut.ensures.len)))
      (c.put_stage.ensures functions later
      (back_in functions c.loop-own.places.items c.deref_mut.result.now c.as_slice.result.now (get_or c.args.stages.now c.loop-own.index c.index-stages-index.result).branches later c.deref_mut.ensures.value c.as_slice.ensures back)
      (owns ∙ ap (λ (l : List Branch). owned_in l functions) (sym c.as_slice.ensures)))),
)

pub returns : goal.returns
returns g c = λ functions many is. subst (λ (l : List g.row.F.Denot). IfOk c.functions_in.result (λ together. together.items ≡ l))
    (all_back (λ own. map (λ v. v.items) own.items) c.loop-own.places.items c.args.stages.now c.args.count c.args.owned.items _ c.loop-own.index functions c.loop-own.invariant.2
    (nothing_left (into_iter_items c.loop-own.own-iterator) _ c.in-None.ensures.steps.0 (sym c.loop-own.own-iterator.rest.ok.0)) many is) c.functions_in.ensures
