use Rattle.std.proofs.Common.{◌+◌, ◌%◌, ◌∙◌, map, arith, ap, sym, subst}
use Rattle.std.proofs.lemmas.Grind.{common_steps}
use Rattle.std.specs.Arc.{arc_value}
use Rattle.std.specs.Prelude.{IsSome}
use Rattle.packet_messages.specs.Messages.{AllFit, first, rest}
use Rattle.packet_messages.specs.BoardRows.{each_rest}
use Rattle.packet_messages.proofs.Taking.{has_packet, own_packet, goes_behind, each_goes_on, row_fits}
use Rattle.packet_messages.proofs.board_inlets.BoardInlets.look.Goals as goal

pub poll-requires-clause-pid : goal.poll-requires-clause-pid
poll-requires-clause-pid g c =
    let i = c.self.inside in
    let lt = has_packet i.next (arc_value i.board).pids i.seat.due c.args.self.now c.self.view_is c.requires.some c.requires.owing c.self.invariant.room.long in
    omega (arith, lt, ap (λ b. b.pids) c.deref.ensures)

pub poll-requires-clause-own : goal.poll-requires-clause-own
poll-requires-clause-own g c =
    let i = c.self.inside in
    ap (λ b. i.next % b.mergers) c.deref.ensures ∙ own_packet (arc_value i.board) i.seat i.branches i.next c.self.invariant

pub overflow_add-self : goal.overflow_add-self
overflow_add-self g c =
    let i = c.self.inside in
    let r = c.self.invariant.room in
    let lt = has_packet i.next (arc_value i.board).pids i.seat.due c.args.self.now c.self.view_is c.requires.some c.requires.owing r.long in
    omega (arith, lt, r.few)

pub invariant_of-self-2 : goal.invariant_of-self-2
invariant_of-self-2 g c =
    let i = c.self.inside in
    let e = c.poll.ensures in
    let got : IsSome c.poll.result = grind (arith, common_steps) in
    goes_behind (arc_value i.board) i.seat c.poll.new.seat i.branches i.next c.self.invariant e.same_board e.merger e.due (e.done got)

pub returns-clause-fits : goal.returns-clause-fits
returns-clause-fits g c =
    let i = c.self.inside in
    let e = c.poll.ensures in
    let got : IsSome c.poll.result = grind (arith, common_steps) in
    let all = e.count got ∙ ap (λ b. b.branches) c.deref.ensures ∙ sym c.self.invariant.room.rows in
    λ _. subst (λ y. AllFit (map first y) c.poll.new.into.items) c.self.view_is (row_fits i.next i.seat.due c.poll.new.into.items all (e.values got))

pub returns-clause-left : goal.returns-clause-left
returns-clause-left g c =
    let i = c.self.inside in
    λ _. ap (λ d. each_rest (i.next + 1) d) c.poll.ensures.due ∙ each_goes_on i.next i.seat.due ∙ ap (map rest) c.self.view_is
