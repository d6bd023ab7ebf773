use Rattle.std.proofs.Common.{◌+◌, arith, ap, sym, subst, drop, ◌∙◌}
use Rattle.packet_messages.specs.Messages.{Owing, rest}
use Rattle.packet_messages.specs.BoardRows.{row_of}
use Rattle.packet_messages.proofs.Giving.{has_next, goes_on, fits_next}
use Rattle.packet_messages.proofs.board_outlet.BoardOutlet.give.Goals as goal

pub put-requires-clause-pid : goal.put-requires-clause-pid
put-requires-clause-pid g c =
    let i = c.self.inside in
    let lt = has_next i.next (row_of i.seat.due i.seat.branch) (subst (λ y. Owing y) (sym c.self.view_is) c.requires.due) in
    omega (arith, lt, c.self.invariant.long, ap (λ b. b.pids) c.deref.ensures)

pub put-requires-clause-fits : goal.put-requires-clause-fits
put-requires-clause-fits g c =
    let i = c.self.inside in
    fits_next i.next i.seat.branch i.seat.due c.args.self.now _ _ c.self.view_is c.requires.due c.requires.fits c.new.ensures

pub overflow_add-self : goal.overflow_add-self
overflow_add-self g c =
    let i = c.self.inside in
    let lt = has_next i.next (row_of i.seat.due i.seat.branch) (subst (λ y. Owing y) (sym c.self.view_is) c.requires.due) in
    omega (arith, lt, c.self.invariant.long, c.self.invariant.few)

pub returns : goal.returns
returns g c =
    let i = c.self.inside in
    ap (λ s. drop (i.next + 1) (row_of s.due s.branch)) c.put.ensures ∙ goes_on i.next (row_of i.seat.due i.seat.branch) ∙ ap rest c.self.view_is
