use Rattle.node_run.specs.Stages.{plain_stage}
use Rattle.node_run.proofs.Wiring.{passed_many}
use Rattle.node_run.proofs.wire.next_fan.Goals as goal

pub fan-requires-clause-many : goal.fan-requires-clause-many
fan-requires-clause-many g c = passed_many g.F.BranchWork.kit (plain_stage c.args.work.now) c.args.count g.D.LinkDue.due g.E.LinkDue.due c.requires.due c.requires.many
