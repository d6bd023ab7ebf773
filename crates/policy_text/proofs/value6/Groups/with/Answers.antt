use Rattle.std.proofs.Common.{arith}
use Rattle.policy_text.proofs.GroupReading.{more_groups, still_narrow}
use Rattle.policy_text.proofs.value6.Groups.with.Goals as goal

pub returns-clause-more : goal.returns-clause-more
returns-clause-more c = more_groups c.args.self c.args.part.now c.in_ok-group.group c.from.result c.requires c.in_ok-group.ensures (omega arith) c.from.ensures

pub returns-clause-narrow : goal.returns-clause-narrow
returns-clause-narrow c = still_narrow c.args.self c.args.part.now c.in_ok-group.group c.from.result c.requires c.in_ok-group.ensures (omega arith) c.from.ensures
