use Rattle.std.proofs.Common.{◌++◌, ◌+◌, drop, map}
use Rattle.graph_run.specs.Packets.{packets_taken}
use Rattle.segment_run.specs.Rewriting.{out_of, rewritten}
use Rattle.segment_run.proofs.Taken.{loop_goes_on, rewritten_ends}
use Rattle.segment_run.proofs.ends.rewrite_all.Goals as goal

pub items-preserved : goal.items-preserved
items-preserved c = λ unit. loop_goes_on c.args.items.now c.items.item-index c.item-item.result (λ later fates. fates ++ map (out_of (rewritten c.args.end)) (packets_taken unit c.args.chain later)) _ c.items.fates.items c.rewrite_next.new.fates.items
    c.items-test.true c.item-item.is (c.in_ok-rewrite_next.ensures unit (drop (c.items.item-index + 1) c.args.items.now)) (c.items.invariant unit)

pub returns : goal.returns
returns c = λ unit. rewritten_ends (rewritten c.args.end) unit c.args.chain c.args.items.now c.items.item-index c.items.fates.items _ c.items-test.false (c.items.invariant unit)
