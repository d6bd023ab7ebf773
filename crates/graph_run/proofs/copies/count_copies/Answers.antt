use Rattle.std.proofs.Common.{◌∙◌, sym}
use Rattle.graph_run.specs.Packets.{packets_taken}
use Rattle.graph_run.proofs.Counted.{counts_begin, counts_next, counts_end}
use Rattle.graph_run.proofs.InARow.{none_counted}
use Rattle.graph_run.proofs.copies.count_copies.Goals as goal

pub returns-then-copies_nothing : goal.returns-then-copies_nothing
returns-then-copies_nothing c unit = none_counted c.args.graph.now.stages (packets_taken unit c.args.chain c.args.items.now) c.args.fates.now c.args.tally.now (sym c.copies_nothing.ensures ∙ c.if-copies_nothing.true)

pub loop-item-init : goal.loop-item-init
loop-item-init c unit = counts_begin c.args.graph.now.stages unit c.args.chain c.args.items.now c.args.fates.now c.args.tally.now

pub loop-item-preserved : goal.loop-item-preserved
loop-item-preserved c unit = counts_next c.args.graph.now.stages unit c.args.chain c.args.items.now c.args.fates.now c.loop-item.left.now c.count_item-left.result.now c.loop-item.item-index c.args.tally.now c.loop-item.tally c.count_item-left.new.tally c.item-item.result
    (c.loop-item.invariant unit) c.loop-item-test.true c.item-item.is (c.count_item-left.ensures.counted unit) c.count_item-left.ensures.left

pub returns : goal.returns
returns c unit = counts_end c.args.graph.now.stages unit c.args.chain c.args.items.now c.args.fates.now c.loop-item.left.now c.loop-item.item-index c.args.tally.now c.loop-item.tally c.loop-item-test.false (c.loop-item.invariant unit)
