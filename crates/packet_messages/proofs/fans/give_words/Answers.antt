use Rattle.std.proofs.Common.{[], sym, ◌∙◌, arith}
use Rattle.packet_messages.proofs.Sweeps.{swept_none, next_holds, swept_more, swept_all}
use Rattle.packet_messages.specs.Messages.{Owing, Fits, first, front, turned, word}
use Rattle.packet_messages.proofs.fans.give_words.Goals as goal

pub loop-index-init : goal.loop-index-init
loop-index-init g c = sym (swept_none turned _)

pub give_into-requires-clause-due : goal.give_into-requires-clause-due
give_into-requires-clause-due g c = next_holds turned [] (λ fan. Owing (front fan)) c.loop-index.index _ _ c.requires.due c.loop-index.invariant (omega arith)

pub give_into-requires-clause-fits : goal.give_into-requires-clause-fits
give_into-requires-clause-fits g c =
    rw c.message_without.ensures (next_holds turned [] (λ fan. Fits (first (front fan)) (word c.args.position)) c.loop-index.index _ _ c.requires.fits c.loop-index.invariant (omega arith))

pub loop-index-preserved : goal.loop-index-preserved
loop-index-preserved g c = swept_more turned [] c.loop-index.index _ _ _ c.loop-index.invariant c.give_into.ensures (omega arith)

pub returns : goal.returns
returns g c = c.loop-index.invariant ∙ swept_all turned c.loop-index.index _ (omega arith)
