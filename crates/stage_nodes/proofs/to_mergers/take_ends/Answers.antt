use Rattle.std.proofs.Common.{sym, ◌∙◌, arith}
use Rattle.packet_messages.specs.Messages.{Owing}
use Rattle.stage_nodes.proofs.Sweeps.{swept_none, swept_more, swept_all, next_holds, fronts_none, fronts_all, fronts_more}
use Rattle.stage_nodes.proofs.to_mergers.take_ends.Goals as goal

pub loop-index-init : goal.loop-index-init
loop-index-init c = (sym (swept_none _), c.new-row.ensures ∙ sym (fronts_none c.args.rows.now))

pub take_from-end-requires-clause-some : goal.take_from-end-requires-clause-some
take_from-end-requires-clause-some c = next_holds Owing c.loop-index.index _ _ c.requires c.loop-index.invariant.0 (omega arith)

pub loop-index-preserved : goal.loop-index-preserved
loop-index-preserved c =
    let i = c.loop-index.invariant in
    let t = c.take_from-end in (
      swept_more c.loop-index.index _ _ _ i.0 t.ensures.after (omega arith),
      fronts_more c.loop-index.index _ _ t.result _ _ i.0 (omega arith) t.ensures.result i.1 c.in_ok-push.ensures,
    )

pub returns-clause-row : goal.returns-clause-row
returns-clause-row c = c.loop-index.invariant.1 ∙ fronts_all c.loop-index.index _ (omega arith)

pub returns-clause-after : goal.returns-clause-after
returns-clause-after c = c.loop-index.invariant.0 ∙ swept_all c.loop-index.index _ (omega arith)
