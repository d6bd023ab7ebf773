use Rattle.std.proofs.Common.{rules}
use Rattle.graph_run.proofs.Counted.{of_another, without_fate, with_fate}
use Rattle.graph_run.proofs.copies.count_item.Goals as goal

pub returns-then-not-is_of-clause-counted : goal.returns-then-not-is_of-clause-counted
returns-then-not-is_of-clause-counted c unit = of_another c.args.graph.now.stages unit c.args.chain c.args.item.now c.args.fates.now c.args.tally.now (search rules)

pub returns-in_default-clause-counted : goal.returns-in_default-clause-counted
returns-in_default-clause-counted c unit = without_fate c.args.graph.now.stages unit c.args.chain c.args.item.now c.args.fates.now c.args.tally.now (search rules)

pub returns-clause-counted : goal.returns-clause-counted
returns-clause-counted c unit = with_fate c.args.graph.now.stages c.as_slice.result.now unit c.args.chain c.args.item.now c.bytes.result.now c.in-Some.fate.now c.args.fates.now c.in-Some.left.now c.args.tally.now c.count_packet.new.tally (search rules) (search rules) (search rules) (search rules) c.count_packet.ensures
