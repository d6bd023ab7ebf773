use Rattle.std.proofs.Common.{arith}
use Rattle.stage_nodes.proofs.Merging.{merger_gave}
use Rattle.stage_nodes.proofs.merger.run_merger.Goals as goal

pub loop-packet-init : goal.loop-packet-init
loop-packet-init g c = record { owes = c.requires.due; ample = λ w. w; count = omega arith }

pub loop-packet-preserved : goal.loop-packet-preserved
loop-packet-preserved g c = record {
  owes = c.turn.ensures.owes;
  ample = λ w. c.loop-packet.invariant.ample (c.turn.ensures.ample w);
  count = omega (arith, c.turn.ensures.count, c.loop-packet.invariant.count);
}

pub returns : goal.returns
returns g c = record {
  ample = λ w. c.loop-packet.invariant.ample w;
  given = merger_gave c.args.merger.now.count c.loop-packet._packet _ _ _ _ _ c.loop-packet-test.false c.loop-packet.invariant.count c.loop-packet.invariant.owes.0;
}
