use Rattle.std.specs.Prelude.{◌≡◌, ◌≤◌, ◌++◌, drop, length}
use Rattle.capture_bytes.specs.declared.packet.Unit.{Unit as TimeUnit}
use Rattle.piece_walk.specs.Rejoining.{still_going}
use Rattle.graph_run.specs.Packets.{packets_taken}
use Rattle.segment_run.proofs.going.going.Given as goal

abbrev pub invariant-items : goal.invariant-items
invariant-items l = record {
  fewer : length l.next.items ≤ l.item-index;
  due : (unit : TimeUnit) → packets_taken unit l.chain l.next.items ++ still_going (packets_taken unit l.chain (drop l.item-index l.items)) l.left.rest.items ≡ still_going (packets_taken unit l.chain l.items) l.fn.ended.items;
}
