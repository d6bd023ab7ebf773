use Rattle.std.proofs.Common.{◌++◌, ◌∷◌, [], sym, ◌∙◌, ap}
use Rattle.std.specs.Arc.{arc_value}
use Rattle.packet_messages.proofs.Dealt.{outlets_begin, branch_turn, outlets_end, none_left}
use Rattle.packet_messages.proofs.boards.all_outlets.Goals as goal

pub loop-seat-init : goal.loop-seat-init
loop-seat-init g c = (tt, tt, outlets_begin (arc_value c.args.board.now) g.D.BoardDue.due _ _ c.requires.room (c.into_iter-seat-iterator.ensures.into_iter_gives.0 ∙ c.requires.seats) c.new-outlets.ensures.items)

pub outlet_of-requires : goal.outlet_of-requires
outlet_of-requires g c =
    let t = branch_turn (arc_value c.args.board.now) g.D.BoardDue.due _ _ _ c.loop-seat.outlets.items c.requires.room c.loop-seat.invariant.2 c.in-Some.ensures.steps.0 in
    t.giving _ c.in_ok-shared.ensures

pub loop-seat-preserved : goal.loop-seat-preserved
loop-seat-preserved g c =
    let t = branch_turn (arc_value c.args.board.now) g.D.BoardDue.due _ _ _ c.loop-seat.outlets.items c.requires.room c.loop-seat.invariant.2 c.in-Some.ensures.steps.0 in
    (tt, tt, t.made _ (c.in_ok-push.ensures.items ∙ ap (λ y. c.loop-seat.outlets.items ++ y ∷ []) c.outlet_of.ensures))

pub returns : goal.returns
returns g c = outlets_end (arc_value c.args.board.now) g.D.BoardDue.due _ _ c.loop-seat.invariant.2 (none_left _ _ c.in-None.ensures.steps.0 (sym c.loop-seat.seat-iterator.rest.ok.0))
