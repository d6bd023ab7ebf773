use Rattle.node_run.proofs.Wiring.{base_many}
use Rattle.node_run.proofs.wire.base_fan.Goals as goal

pub fan-requires-clause-many : goal.fan-requires-clause-many
fan-requires-clause-many g c = base_many c.args.parts.now.touches c.args.count g.D.LinkDue.due g.E.LinkDue.due c.requires.due c.requires.many
