use Rattle.std.proofs.Common.{subst}
use Rattle.packet_messages.specs.Messages.{Fits, plain}
use Rattle.stage_nodes.proofs.Supplying.{mergers_have, came_in_turn}
use Rattle.stage_nodes.proofs.supply.InletsApartSupply.next.Goals as goal

pub accept_next-requires-clause-some : goal.accept_next-requires-clause-some
accept_next-requires-clause-some g c = (mergers_have c.args.self.now c.requires.more).0

pub accept_next-requires-clause-due : goal.accept_next-requires-clause-due
accept_next-requires-clause-due g c = (mergers_have c.args.self.now c.requires.more).1

pub returns-in-Live-clause-next : goal.returns-in-Live-clause-next
returns-in-Live-clause-next g c = λ x xs due. rw c.into_inner.ensures (subst (λ m. Fits x (plain m)) c.in-Live.is (came_in_turn c.args.self.now c.accept_next.new.self (plain c.accept_next.result) c.accept_next.ensures.fits c.accept_next.ensures.after x xs due).next)

pub returns-in-Live-clause-left : goal.returns-in-Live-clause-left
returns-in-Live-clause-left g c = λ x xs due. (came_in_turn c.args.self.now c.accept_next.new.self (plain c.accept_next.result) c.accept_next.ensures.fits c.accept_next.ensures.after x xs due).later

pub returns-in-Nil-clause-next : goal.returns-in-Nil-clause-next
returns-in-Nil-clause-next g c = λ x xs due. subst (λ m. Fits x (plain m)) c.in-Nil.is (came_in_turn c.args.self.now c.accept_next.new.self (plain c.accept_next.result) c.accept_next.ensures.fits c.accept_next.ensures.after x xs due).next

pub returns-in-Nil-clause-left : goal.returns-in-Nil-clause-left
returns-in-Nil-clause-left g c = λ x xs due. (came_in_turn c.args.self.now c.accept_next.new.self (plain c.accept_next.result) c.accept_next.ensures.fits c.accept_next.ensures.after x xs due).later

pub returns-in-Short-clause-left : goal.returns-in-Short-clause-left
returns-in-Short-clause-left g c = λ x xs due. (came_in_turn c.args.self.now c.accept_next.new.self (plain c.accept_next.result) c.accept_next.ensures.fits c.accept_next.ensures.after x xs due).later
