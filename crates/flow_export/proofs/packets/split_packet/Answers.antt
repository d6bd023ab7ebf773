use Rattle.std.proofs.Common.{[], arith}
use Rattle.flow_export.proofs.Splitting.{full_front, full_back, last_front, last_back}
use Rattle.flow_export.proofs.packets.split_packet.Goals as goal

pub returns-then-count-eq-RECORDS-clause-front : goal.returns-then-count-eq-RECORDS-clause-front
returns-then-count-eq-RECORDS-clause-front c = full_front c.args.lines.now c.split_at.result.0.now [] c.lines.place c.split_at.ensures.front (omega (arith, c.if-count-eq-RECORDS.true, c.lines.invariant.0))

pub returns-then-count-eq-RECORDS-clause-back : goal.returns-then-count-eq-RECORDS-clause-back
returns-then-count-eq-RECORDS-clause-back c = full_back c.args.lines.now [] c.split_at.result.1.now c.lines.place c.split_at.ensures.back (omega (arith, c.if-count-eq-RECORDS.true, c.lines.invariant.0))

pub returns-clause-front : goal.returns-clause-front
returns-clause-front c =
    last_front c.args.lines.now c.split_at-2.result.0.now [] c.lines.place c.split_at-2.ensures.front (omega (arith, c.lines-test.false)) (omega (arith, c.lines.invariant.0, c.lines.invariant.1))

pub returns-clause-back : goal.returns-clause-back
returns-clause-back c =
    last_back c.args.lines.now [] c.split_at-2.result.1.now c.lines.place c.split_at-2.ensures.back (omega (arith, c.lines-test.false)) (omega (arith, c.lines.invariant.0, c.lines.invariant.1))
