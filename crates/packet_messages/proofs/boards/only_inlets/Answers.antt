use Rattle.std.proofs.Common.{sym, ◌∙◌, ap}
use Rattle.std.specs.Arc.{arc_value}
use Rattle.packet_messages.proofs.Dealt.{first_seat, only_taking}
use Rattle.packet_messages.proofs.boards.only_inlets.Goals as goal

pub inlets_of-requires : goal.inlets_of-requires
inlets_of-requires g c =
    let board = arc_value c.args.board in
    let due = g.D.BoardDue.due in
    only_taking board due c.remove-seat.result c.args.branches c.requires.room (first_seat board due c.remove-seat.result _ c.requires.seats c.remove-seat.ensures.value) (sym c.requires.branches)

pub returns : goal.returns
returns g c =
    let board = arc_value c.args.board in
    let due = g.D.BoardDue.due in
    c.inlets_of.ensures ∙ ap (λ s. s.due) (first_seat board due c.remove-seat.result _ c.requires.seats c.remove-seat.ensures.value)
