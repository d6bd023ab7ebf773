use Rattle.graph_run.proofs.Counted.{reached_to, reached_end}
use Rattle.std.proofs.Common.{rules}
use Rattle.graph_run.proofs.copies.reached_up_to.Goals as goal

pub returns-in-Some : goal.returns-in-Some
returns-in-Some c = reached_to c.args.stages.now c.args.dropper c.in-Some.last (search (rules, c.in-Some.is, c.stage_of.ensures.found))

pub returns-in-None : goal.returns-in-None
returns-in-None c = reached_end c.args.stages.now c.args.dropper (search (rules, c.in-None.is, c.stage_of.ensures.found))
