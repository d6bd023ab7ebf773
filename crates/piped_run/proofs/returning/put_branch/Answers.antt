use Rattle.std.proofs.Common.{rules, ◌+◌, List, sym, subst}
use Rattle.std.specs.Prelude.{Option}
use Rattle.std.specs.Vec.Iter.{into_iter_items}
use Rattle.piped_run.proofs.PutBack.{Put, put_none, put_inside, put_within, put_more, put_all, nothing_left}
use Rattle.piped_run.proofs.returning.put_branch.Goals as goal

pub loop-function-init : goal.loop-function-init
loop-function-init g c = (tt, tt, put_none c.args.places.now c.args.positions.now c.args.own.items _ c.into_iter-function-iterator.ensures.into_iter_gives.0 c.requires)

pub bounds-positions-index : goal.bounds-positions-index
bounds-positions-index g c = put_inside c.args.places.now c.loop-function.places c.args.positions.now c.args.own.items _ _ c.in-Some.function c.loop-function.index c.loop-function.invariant.2 c.in-Some.ensures.steps.0

pub offset_bounds-positions-index : goal.offset_bounds-positions-index
offset_bounds-positions-index g c = let inside = put_inside c.args.places.now c.loop-function.places c.args.positions.now c.args.own.items _ _ c.in-Some.function c.loop-function.index c.loop-function.invariant.2 c.in-Some.ensures.steps.0 in search rules

pub put_at-requires : goal.put_at-requires
put_at-requires g c =
    let w = put_within c.args.places.now c.loop-function.places c.args.positions.now c.args.own.items _ _ c.in-Some.function c.loop-function.index c.loop-function.invariant.2 c.in-Some.ensures.steps.0 c.requires in
    record { first = w.0; last = w.1 }

pub loop-function-preserved : goal.loop-function-preserved
loop-function-preserved g c = (
  tt,
  tt,
  subst (λ (p : List (Option g.row.F.Denot)). Put c.args.places.now p c.args.positions.now c.args.own.items (into_iter_items c.next.new.self) (c.loop-function.index + 1)) (sym c.put_at.ensures)
      (put_more c.args.places.now c.loop-function.places c.args.positions.now c.args.own.items _ _ c.in-Some.function c.loop-function.index c.loop-function.invariant.2 c.in-Some.ensures.steps.0),
)

pub overflow_add-index : goal.overflow_add-index
overflow_add-index g c = let inside = put_inside c.args.places.now c.loop-function.places c.args.positions.now c.args.own.items _ _ c.in-Some.function c.loop-function.index c.loop-function.invariant.2 c.in-Some.ensures.steps.0 in search rules

pub returns : goal.returns
returns g c = λ functions later back is. put_all c.args.places.now c.loop-function.places c.args.positions.now c.args.own.items _ c.loop-function.index functions later c.loop-function.invariant.2
    (nothing_left (into_iter_items c.loop-function.function-iterator) _ c.in-None.ensures.steps.0 (sym c.loop-function.function-iterator.rest.ok.0)) back is
