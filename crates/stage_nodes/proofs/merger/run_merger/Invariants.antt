use Rattle.std.proofs.Common.{◌≡◌, ◌-◌, false}
use Rattle.stage_nodes.specs.Turns.{MergerOwes}
use Rattle.stage_nodes.proofs.merger.run_merger.Given as goal

abbrev pub invariant-loop-packet : goal.invariant-loop-packet
invariant-loop-packet g l = record {
  owes : MergerOwes l.merger;
  ample : l.merger.to.short ≡ false → l.fn.merger.to.short ≡ false;
  count : l.merger.count ≡ l.fn.merger.count - l._packet;
}
