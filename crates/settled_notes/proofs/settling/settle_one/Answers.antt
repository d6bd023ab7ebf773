use Rattle.std.proofs.Common.{arith}
use Rattle.settled_notes.proofs.InOrder.{settles_none, settles_one}
use Rattle.settled_notes.proofs.NoLine.{one_adds_none}
use Rattle.settled_notes.proofs.settling.settle_one.Goals as goal

pub returns-then-index-functions-clause-settled : goal.returns-then-index-functions-clause-settled
returns-then-index-functions-clause-settled g c = λ ends same_drops.
    settles_none g.F.Function.notes c.args.positions.now ends c.args.functions.now _ c.args.note.now c.position_at.result c.is_dropped_before.result c.note.view_is c.position_at.ensures (c.is_dropped_before.ensures ends same_drops) c.if-is_dropped_before.false c.if-index-functions.true

pub returns-clause-settled : goal.returns-clause-settled
returns-clause-settled g c = λ ends same_drops.
    settles_one g.F.Function.notes c.args.positions.now ends c.args.functions.now _ c.args.note.now c.position_at.result c.is_dropped_before.result c.settle.new.self c.index-functions-index.result c.settle.result c.note.view_is c.position_at.ensures (c.is_dropped_before.ensures ends same_drops) c.if-is_dropped_before.false (omega (arith, c.if-index-functions.false)) c.settle.ensures.settled

pub returns-clause-known : goal.returns-clause-known
returns-clause-known g c = λ ends same_drops as_many. c.settle.ensures.known
    (one_adds_none g.F.Function.rows g.F.Function.notes c.args.positions.now ends c.args.functions.now _ c.args.note.now c.position_at.result c.is_dropped_before.result c.index-functions-index.result c.note.view_is c.position_at.ensures (c.is_dropped_before.ensures ends same_drops) c.if-is_dropped_before.false (omega (arith, c.if-index-functions.false)) as_many)
