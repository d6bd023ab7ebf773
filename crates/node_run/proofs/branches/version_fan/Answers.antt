use Rattle.node_run.proofs.Wiring.{parted_many}
use Rattle.node_run.proofs.branches.version_fan.Goals as goal

pub fan-requires-clause-many : goal.fan-requires-clause-many
fan-requires-clause-many g c = parted_many c.args.touch c.args.count g.D.LinkDue.due g.E.LinkDue.due c.requires.due c.requires.many
