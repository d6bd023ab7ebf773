use Rattle.std.proofs.Common.{◌∙◌, refl, sym}
use Rattle.packet_messages.specs.Messages.{plain}
use Rattle.stage_nodes.proofs.Branching.{version_due, branch_front, may_next, branch_fits, moved_by, branch_goes_on}
use Rattle.stage_nodes.proofs.branch.Branch.turn_next.Goals as goal

pub accept-message-requires : goal.accept-message-requires
accept-message-requires g c = record { due = version_due _ _ _ _ _ _ _ _ c.requires.ready }

pub answer-reply-requires : goal.answer-reply-requires
answer-reply-requires g c = record { may = λ w. may_next _ _ _ _ _ _ _ _ _ c.requires.ready c.accept-message.ensures.fits (sym c.is_short-short.ensures ∙ w) }

pub give_turn-requires-clause-some : goal.give_turn-requires-clause-some
give_turn-requires-clause-some g c = (branch_front _ _ _ _ _ _ _ _ c.requires.ready).some

pub give_turn-requires-clause-due : goal.give_turn-requires-clause-due
give_turn-requires-clause-due g c = (branch_front _ _ _ _ _ _ _ _ c.requires.ready).owing

pub give_turn-requires-clause-fits : goal.give_turn-requires-clause-fits
give_turn-requires-clause-fits g c = branch_fits _ _ _ _ _ _ _ _ (plain c.accept-message.result) (plain c.answer-reply.result) c.requires.ready c.accept-message.ensures.fits
    (λ w. let a = c.answer-reply.ensures w in (sym c.is_short-short.ensures ∙ a.0, a.1, a.2, a.3))

pub give_turn-requires-clause-stays : goal.give_turn-requires-clause-stays
give_turn-requires-clause-stays g c w = sym c.is_short-short.ensures ∙ (c.answer-reply.ensures w).0

pub returns : goal.returns
returns g c = record {
  due = λ n end due. branch_goes_on g.F.BranchWork.kit g.F.BranchWork.may _ _ _ _ _ _ _ _ _ _ _ _ due c.accept-message.ensures.after c.give_turn.ensures.given
      (λ w.
      let a = c.answer-reply.ensures (sym c.give_turn.ensures.short ∙ w) in
      moved_by g.F.BranchWork.kit c.args.self.now.to.short c.args.self.now.work _ _ (plain c.accept-message.result) {reply = plain c.answer-reply.result} c.accept-message.ensures.fits
      (sym c.is_short-short.ensures ∙ a.0, a.1, a.2, a.3));
  ample = λ w. sym c.is_short-short.ensures ∙ (c.answer-reply.ensures (sym c.give_turn.ensures.short ∙ w)).0;
  first = refl;
  step = refl;
  count = refl;
}
