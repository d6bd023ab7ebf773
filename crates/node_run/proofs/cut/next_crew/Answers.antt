use Rattle.node_run.proofs.Crewing.{last_taken, none_taken}
use Rattle.node_run.proofs.cut.next_crew.Goals as goal

pub returns-in-Some-clause-nodes : goal.returns-in-Some-clause-nodes
returns-in-Some-clause-nodes g c = last_taken _ _ _ c.in-Some.crew c.pop.ensures.items c.in-Some.is

pub returns-in-None-clause-nodes : goal.returns-in-None-clause-nodes
returns-in-None-clause-nodes g c = none_taken _ _ _ _ c.pop.ensures.items c.in-None.is c.new-in-None.ensures
