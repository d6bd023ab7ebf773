use Rattle.std.proofs.Common.{◌≡◌, ◌∙◌, ◌+◌, ◌++◌, ℕ, List, drop, ap, sym, subst}
use Rattle.std.specs.Vec.Iter.{into_iter_items}
use Rattle.graph_compile.specs.Facts.{positions_of}
use Rattle.burst_law.specs.Owned.{owned}
use Rattle.piped_run.specs.Places.{AreBack}
use Rattle.piped_run.proofs.PutBack.{stage_none, stage_inside, next_branch, stage_more, stage_all, nothing_left}
use Rattle.piped_run.proofs.returning.put_stage.Goals as goal

pub loop-functions-init : goal.loop-functions-init
loop-functions-init g c = (tt, tt, stage_none (λ v. v.items) c.args.places.now c.args.branches.now c.args.own.items _ c.into_iter-functions-iterator.ensures.into_iter_gives.0 c.requires)

pub bounds-branches-index : goal.bounds-branches-index
bounds-branches-index g c = stage_inside (λ v. v.items) c.args.places.now c.loop-functions.places c.args.branches.now c.args.own.items _ _ c.in-Some.functions c.loop-functions.index c.loop-functions.invariant.2 c.in-Some.ensures.steps.0

pub put_branch-requires : goal.put_branch-requires
put_branch-requires g c =
    let next = next_branch (λ v. v.items) c.args.places.now c.loop-functions.places c.args.branches.now c.args.own.items _ _ c.in-Some.functions c.loop-functions.index c.index-branches-index.result c.requires.0 c.requires.1 c.loop-functions.invariant.2 c.in-Some.ensures.steps.0 c.requires.2 c.requires.3 in (
      c.requires.0,
      positions_of (drop (c.loop-functions.index + 1) c.args.branches.now) ++ c.requires.1,
      subst (λ (l : List ℕ). AreBack c.requires.0 c.loop-functions.places (l ++ (positions_of (drop (c.loop-functions.index + 1) c.args.branches.now) ++ c.requires.1))) (sym c.as_slice.ensures) next.back,
      next.owns ∙ ap (λ (l : List ℕ). owned l c.requires.0) (sym c.as_slice.ensures),
    )

pub loop-functions-preserved : goal.loop-functions-preserved
loop-functions-preserved g c = (
  tt,
  tt,
  stage_more (λ v. v.items) c.args.places.now c.loop-functions.places c.put_branch.new.places c.args.branches.now c.args.own.items _ _ c.in-Some.functions c.loop-functions.index c.index-branches-index.result c.loop-functions.invariant.2 c.in-Some.ensures.steps.0
      (subst (λ (l : List ℕ). (functions : List g.row.F.Denot) (later : List ℕ) → AreBack functions c.loop-functions.places (l ++ later) → c.in-Some.functions.items ≡ owned l functions → AreBack functions c.put_branch.new.places later) c.as_slice.ensures c.put_branch.ensures),
)

pub returns : goal.returns
returns g c = λ functions later back is. stage_all (λ v. v.items) c.args.places.now c.loop-functions.places c.args.branches.now c.args.own.items _ c.loop-functions.index functions later c.loop-functions.invariant.2
    (nothing_left (into_iter_items c.loop-functions.functions-iterator) _ c.in-None.ensures.steps.0 (sym c.loop-functions.functions-iterator.rest.ok.0)) back is
