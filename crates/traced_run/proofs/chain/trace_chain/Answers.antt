use Rattle.std.proofs.Common.{◌∙◌, ℕ, List, get_or, ap, refl, subst, arith}
use Rattle.std.specs.Prelude.{Option}
use Rattle.packet_version.specs.Splitting.{taken_apart}
use Rattle.traced_run.specs.declared.turn.Parted.{Parted}
use Rattle.traced_run.proofs.UnderWay.{Turned, walk_begins, walk_goes_on, walk_over, walk_stops}
use Rattle.traced_run.proofs.chain.trace_chain.Goals as goal

pub functions-init : goal.functions-init
functions-init g c =
    walk_begins _ _ _ _ _ _ _ (record { time = c.args.time; frame = c.args.frame; whole = c.in_ok-whole.whole })
    (record { apart = c.in_ok-whole.ensures.apart ∙ ap (λ (l : List ℕ). taken_apart 1 c.args.time l) c.bytes.ensures; again = c.in_ok-whole.ensures.whole ∙ c.bytes.ensures }) refl refl

pub turn-requires : goal.turn-requires
turn-requires g c = c.functions.invariant.parted

pub functions-preserved : goal.functions-preserved
functions-preserved g c =
    let turned = subst (λ (left : Option Parted). Turned g.F.Function.behaviour g.F.Function.decides c.functions.packet.time c.functions.packet.frame
    (get_or c.functions.functions c.functions.index c.index-functions-index.result) c.turn.new.function left c.functions.trace c.turn.new.trace) c.in-Some.is c.in_ok-next.ensures in
    walk_goes_on _ _ _ _ _ _ _ _ _ _ _ _ _ c.index-functions-index.result _ c.functions.invariant (omega arith) turned

pub returns-in-None-clause-fate : goal.returns-in-None-clause-fate
returns-in-None-clause-fate g c =
    let turned = subst (λ (left : Option Parted). Turned g.F.Function.behaviour g.F.Function.decides c.functions.packet.time c.functions.packet.frame
    (get_or c.functions.functions c.functions.index c.index-functions-index.result) c.turn.new.function left c.functions.trace c.turn.new.trace) c.in-None.is c.in_ok-next.ensures in
    ap (λ w. w.fate) (walk_stops _ _ _ _ _ _ _ _ _ _ _ _ c.index-functions-index.result _ c.functions.invariant (omega arith) turned)

pub returns-in-None-clause-functions : goal.returns-in-None-clause-functions
returns-in-None-clause-functions g c =
    let turned = subst (λ (left : Option Parted). Turned g.F.Function.behaviour g.F.Function.decides c.functions.packet.time c.functions.packet.frame
    (get_or c.functions.functions c.functions.index c.index-functions-index.result) c.turn.new.function left c.functions.trace c.turn.new.trace) c.in-None.is c.in_ok-next.ensures in
    ap (λ w. w.functions) (walk_stops _ _ _ _ _ _ _ _ _ _ _ _ c.index-functions-index.result _ c.functions.invariant (omega arith) turned)

pub returns-in-None-clause-acts : goal.returns-in-None-clause-acts
returns-in-None-clause-acts g c =
    let turned = subst (λ (left : Option Parted). Turned g.F.Function.behaviour g.F.Function.decides c.functions.packet.time c.functions.packet.frame
    (get_or c.functions.functions c.functions.index c.index-functions-index.result) c.turn.new.function left c.functions.trace c.turn.new.trace) c.in-None.is c.in_ok-next.ensures in
    ap (λ w. w.trace) (walk_stops _ _ _ _ _ _ _ _ _ _ _ _ c.index-functions-index.result _ c.functions.invariant (omega arith) turned)

pub returns-clause-fate : goal.returns-clause-fate
returns-clause-fate g c = ap (λ w. w.fate) (walk_over _ _ _ _ _ _ _ _ _ _ _ c.functions.invariant (omega (arith, c.functions-test.false, c.functions.auto.functions)))

pub returns-clause-functions : goal.returns-clause-functions
returns-clause-functions g c = ap (λ w. w.functions) (walk_over _ _ _ _ _ _ _ _ _ _ _ c.functions.invariant (omega (arith, c.functions-test.false, c.functions.auto.functions)))

pub returns-clause-acts : goal.returns-clause-acts
returns-clause-acts g c = ap (λ w. w.trace) (walk_over _ _ _ _ _ _ _ _ _ _ _ c.functions.invariant (omega (arith, c.functions-test.false, c.functions.auto.functions)))
