use Rattle.std.proofs.Common.{◌∙◌, ap}
use Rattle.graph_run.specs.Packets.{packets_taken}
use Rattle.segment_run.proofs.Taken.{going_ends_all}
use Rattle.segment_run.proofs.going.going.Goals as goal

pub returns-clause-packets : goal.returns-clause-packets
returns-clause-packets c = λ unit. ap (packets_taken unit c.args.chain) c.new.ensures ∙ going_ends_all unit c.args.chain c.args.items.now c.items.item-index c.items.next.items c.items.left.rest.items _ c.items-test.false (c.items.invariant.due unit)
