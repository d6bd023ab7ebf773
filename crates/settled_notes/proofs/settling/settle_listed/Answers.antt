use Rattle.std.proofs.Common.{true≢false, sym}
use Rattle.settled_notes.proofs.InOrder.{settled_more, settled_over}
use Rattle.settled_notes.proofs.NoLine.{first_adds_none, rest_adds_none}
use Rattle.settled_notes.proofs.settling.settle_listed.Goals as goal

pub loop-note-preserved : goal.loop-note-preserved
loop-note-preserved g c = λ ends same_drops. (
  settled_more g.F.Function.notes c.args.positions.now ends _ c.loop-note.functions c.settle_one.new.functions c.args.listed.now c.loop-note.note-index c.note-item.result (c.loop-note.invariant ends same_drops).0 c.loop-note-test.true c.note-item.is (c.in_ok-settle_one.ensures.settled ends same_drops),
  λ none. rest_adds_none g.F.Function.rows g.F.Function.notes c.args.positions.now ends c.loop-note.functions c.settle_one.new.functions c.args.listed.now c.loop-note.note-index c.note-item.result c.loop-note-test.true c.note-item.is (c.in_ok-settle_one.ensures.settled ends same_drops) ((c.loop-note.invariant ends same_drops).1 none),
)

pub returns-clause-settled : goal.returns-clause-settled
returns-clause-settled g c = λ ends same_drops. settled_over g.F.Function.notes c.args.positions.now ends _ c.loop-note.functions c.args.listed.now c.loop-note.note-index (c.loop-note.invariant ends same_drops).0 c.loop-note-test.false

pub returns-in_err-settle_one-clause-known : goal.returns-in_err-settle_one-clause-known
returns-in_err-settle_one-clause-known g c = λ ends same_drops none. absurd (true≢false (sym (c.in_err-settle_one.ensures.known ends same_drops
    (first_adds_none g.F.Function.rows g.F.Function.notes c.args.positions.now ends c.loop-note.functions c.args.listed.now c.loop-note.note-index c.note-item.result c.loop-note-test.true c.note-item.is ((c.loop-note.invariant ends same_drops).1 none)))))
