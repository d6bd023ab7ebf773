use Rattle.node_run.proofs.Crewing.{placed}
use Rattle.node_run.proofs.cut.place.Goals as goal

pub returns-clause-nodes : goal.returns-clause-nodes
returns-clause-nodes g c = placed _ _ _ _ _ _ c.next_crew-crew.ensures.nodes c.in_ok-push.ensures c.in_ok-push-2.ensures.items
