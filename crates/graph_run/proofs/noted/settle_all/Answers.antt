use Rattle.std.proofs.Common.{◌∙◌, ◌<◌, ◌≤◌, length, get_or, ap, subst, arith}
use Rattle.graph_run.specs.Settling.{gone_at}
use Rattle.graph_run.proofs.Settled.{settles_more, settles_over}
use Rattle.graph_run.proofs.noted.settle_all.Goals as goal

pub loop-noted-preserved : goal.loop-noted-preserved
loop-noted-preserved g c = settles_more g.F.Function.notes (gone_at c.args.fate.now) c.args.functions.now _ _ c.args.notes.now.items c.loop-noted.noted-index c.noted-item.result
    (subst (λ l. c.loop-noted.noted-index < length l) c.as_slice-noted-items.ensures.value c.loop-noted-test.true)
    (c.noted-item.is ∙ ap (λ l. get_or l c.loop-noted.noted-index c.noted-item.result) c.as_slice-noted-items.ensures.value)
    c.in_ok-settle_where.ensures c.loop-noted.invariant

pub returns-clause-functions : goal.returns-clause-functions
returns-clause-functions g c = settles_over g.F.Function.notes (gone_at c.args.fate.now) c.args.functions.now c.loop-noted.functions c.args.notes.now.items c.loop-noted.noted-index
    (subst (λ l. length l ≤ c.loop-noted.noted-index) c.as_slice-noted-items.ensures.value (omega arith)) c.loop-noted.invariant
