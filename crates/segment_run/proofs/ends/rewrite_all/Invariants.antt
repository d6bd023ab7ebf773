use Rattle.std.specs.Prelude.{◌≡◌, ◌++◌, drop, map}
use Rattle.capture_bytes.specs.declared.packet.Unit.{Unit as TimeUnit}
use Rattle.graph_run.specs.Packets.{packets_taken}
use Rattle.segment_run.specs.Rewriting.{out_of, rewritten}
use Rattle.segment_run.proofs.ends.rewrite_all.Given as goal

abbrev pub invariant-items : goal.invariant-items
invariant-items l = (unit : TimeUnit) → l.fates.items ++ map (out_of (rewritten l.end)) (packets_taken unit l.chain (drop l.item-index l.items)) ≡ map (out_of (rewritten l.end)) (packets_taken unit l.chain l.items)
