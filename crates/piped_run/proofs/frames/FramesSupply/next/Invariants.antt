use Rattle.std.proofs.Common.{◌≡◌, length}
use Rattle.graph_run.specs.Packets.{packets_taken}
use Rattle.piped_run.proofs.frames.FramesSupply.next.Given as goal

abbrev pub invariant-items : goal.invariant-items
invariant-items g l = (l.self-inside.taggers ≡ l.fn.self.taggers) × (packets_taken l.self-inside.unit l.self-inside.chain l.self-inside.rest.now ≡ l.fn.self.packets)

abbrev pub decreases-items : goal.decreases-items
decreases-items g l = length l.self-inside.rest.now
