use Rattle.std.specs.Prelude.{◌≡◌, ◌++◌, drop}
use Rattle.capture_bytes.specs.declared.packet.Unit.{Unit as TimeUnit}
use Rattle.piece_walk.specs.Rejoining.{sealed_fates}
use Rattle.graph_run.specs.Packets.{packets_taken}
use Rattle.segment_run.proofs.sealing.seal_all.Given as goal

abbrev pub invariant-items : goal.invariant-items
invariant-items l = (unit : TimeUnit) → l.all.items ++ sealed_fates (packets_taken unit l.chain (drop l.item-index l.items)) l.left.rest.items ≡ sealed_fates (packets_taken unit l.chain l.items) l.fn.fates.items
