use Rattle.std.proofs.Common.{◌∙◌, sym}
use Rattle.packet_messages.specs.Messages.{plain}
use Rattle.stage_nodes.proofs.Merging.{base_due, all_owe, few_came, belong_to, reply_fits}
use Rattle.stage_nodes.proofs.merger.Merger.reply.Goals as goal

pub accept_row-requires-clause-owing : goal.accept_row-requires-clause-owing
accept_row-requires-clause-owing g c = all_owe _ _ _ _ (c.requires.at.1.due (sym c.is_short-short.ensures ∙ c.if-short.false))

pub accept-requires : goal.accept-requires
accept-requires g c = record { due = base_due _ _ _ _ (c.requires.at.1.due (sym c.is_short-short.ensures ∙ c.if-short.false)) }

pub join-requires-clause-few : goal.join-requires-clause-few
join-requires-clause-few g c = few_came _ _ _ _ _ (c.requires.at.1.due (sym c.is_short-short.ensures ∙ c.if-short.false)) c.accept_row.ensures.row

pub join-requires-clause-belong : goal.join-requires-clause-belong
join-requires-clause-belong g c = belong_to _ _ _ _ (plain c.accept.result) _ (c.requires.at.1.due (sym c.is_short-short.ensures ∙ c.if-short.false)) c.accept.ensures.fits c.accept_row.ensures.row

pub returns-clause-fits : goal.returns-clause-fits
returns-clause-fits g c = reply_fits _ _ _ _ (plain c.accept.result) _ (plain c.join.result) (c.requires.at.1.due (sym c.is_short-short.ensures ∙ c.if-short.false)) c.accept.ensures.fits c.accept_row.ensures.row c.join.ensures.joined
