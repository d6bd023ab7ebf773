use Rattle.std.proofs.Common.{◌∙◌, sym}
use Rattle.stage_nodes.proofs.Merging.{merger_fits, merger_goes_on, merger_owes}
use Rattle.stage_nodes.proofs.merger.Merger.merge_next.Goals as goal

pub give_on-requires : goal.give_on-requires
give_on-requires g c = record { due = merger_owes _ _ _ _ _ _ c.reply-reply.ensures.outlet c.requires.at.1; fits = merger_fits _ _ _ c.reply-reply.ensures.outlet c.reply-reply.ensures.fits; stays = λ w. c.reply-reply.ensures.stays ∙ c.reply-reply.ensures.ample w }

pub returns-clause-at : goal.returns-clause-at
returns-clause-at g c = λ n at. merger_goes_on n _ _ _ _ _ _ _ _ _ _ at c.give_on.ensures.short c.reply-reply.ensures.ample c.reply-reply.ensures.taken c.reply-reply.ensures.outlet c.give_on.ensures.given

pub returns-clause-ample : goal.returns-clause-ample
returns-clause-ample g c w = c.reply-reply.ensures.ample (sym c.give_on.ensures.short ∙ w)
