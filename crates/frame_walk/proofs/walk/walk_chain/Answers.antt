use Rattle.std.proofs.Common.{◌∙◌, get_or, sym, ap, arith}
use Rattle.frame_walk.proofs.FunctionOnFrame.{on_err}
use Rattle.frame_walk.proofs.Walking.{walk_begins, walk_goes_on, walk_stops, walk_over, stops_in_turn, handed_next, handed_none}
use Rattle.frame_walk.proofs.walk.walk_chain.Goals as goal

pub functions-init : goal.functions-init
functions-init g c = walk_begins _ _ _ _

pub functions-preserved : goal.functions-preserved
functions-preserved g c =
    let next = handed_next g.F.Function.behaviour c.args.time (get_or c.functions.functions c.functions.index c.index-functions-index.result) c.functions.frame c.in-Some.next (sym c.in-Some.is ∙ c.in_ok-next.ensures.frame) in
    walk_goes_on _ _ _ _ _ _ _ _ c.index-functions-index.result _ c.functions.invariant (omega arith) c.in_ok-next.ensures.after next.1 next.0

pub returns-in_err-next-clause-refused : goal.returns-in_err-next-clause-refused
returns-in_err-next-clause-refused g c = on_err _ _ (stops_in_turn _ _ _ _ _ _ _ c.index-functions-index.result _ c.functions.invariant (omega arith) c.in_err-next.ensures.refused)

pub returns-in-None-clause-fate : goal.returns-in-None-clause-fate
returns-in-None-clause-fate g c = ap (λ w. w.fate) (walk_stops _ _ _ _ _ _ _ c.index-functions-index.result _ c.functions.invariant (omega arith) c.in_ok-next.ensures.after (handed_none g.F.Function.behaviour c.args.time (get_or c.functions.functions c.functions.index c.index-functions-index.result) c.functions.frame (sym c.in-None.is ∙ c.in_ok-next.ensures.frame)))

pub returns-in-None-clause-functions : goal.returns-in-None-clause-functions
returns-in-None-clause-functions g c = ap (λ w. w.functions) (walk_stops _ _ _ _ _ _ _ c.index-functions-index.result _ c.functions.invariant (omega arith) c.in_ok-next.ensures.after (handed_none g.F.Function.behaviour c.args.time (get_or c.functions.functions c.functions.index c.index-functions-index.result) c.functions.frame (sym c.in-None.is ∙ c.in_ok-next.ensures.frame)))

pub returns-clause-fate : goal.returns-clause-fate
returns-clause-fate g c = ap (λ w. w.fate) (walk_over _ _ _ _ _ _ _ c.functions.invariant c.functions-test.false)

pub returns-clause-functions : goal.returns-clause-functions
returns-clause-functions g c = ap (λ w. w.functions) (walk_over _ _ _ _ _ _ _ c.functions.invariant c.functions-test.false)
