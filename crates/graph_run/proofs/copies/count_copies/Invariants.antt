use Rattle.capture_bytes.specs.declared.packet.Unit.{Unit as TimeUnit}
use Rattle.graph_run.proofs.Counted.{HasCounted}
use Rattle.graph_run.proofs.copies.count_copies.Given as goal

abbrev pub invariant-loop-item : goal.invariant-loop-item
invariant-loop-item l = (unit : TimeUnit) → HasCounted l.fn.graph.stages unit l.chain l.items l.fn.fates l.left l.item-index l.fn.tally l.tally
