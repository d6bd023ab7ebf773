use Rattle.std.proofs.Common.{◌∙◌, ◌++◌, ap, sym}
use Rattle.settled_notes.proofs.InOrder.{row_of_one, row_of_none}
use Rattle.settled_notes.proofs.listed.list_note.Goals as goal

pub returns-in_ok-push-clause-adds : goal.returns-in_ok-push-clause-adds
returns-in_ok-push-clause-adds c = c.in_ok-push.ensures.items ∙ ap (λ l. c.args.listed.now.items ++ l) (sym (row_of_one c.args.packet c.args.index c.args.note c.in-Some.note c.in-Some.is))

pub returns-in_default-clause-adds : goal.returns-in_default-clause-adds
returns-in_default-clause-adds c = row_of_none c.args.packet c.args.index c.args.note c.args.listed.now.items c.in_default.not-Some
