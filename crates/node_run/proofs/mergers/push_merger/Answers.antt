use Rattle.node_run.specs.declared.node.Node.TheVariants as node
use Rattle.node_run.proofs.Wiring.{merger_added}
use Rattle.node_run.proofs.Edging.{one_joined}
use Rattle.node_run.proofs.mergers.push_merger.Goals as goal

pub returns-clause-joined : goal.returns-clause-joined
returns-clause-joined g c = one_joined _ _ (node.Merger c.args.merger) c.in_ok-push.ensures.items

pub returns-clause-nodes : goal.returns-clause-nodes
returns-clause-nodes g c fs copies old = merger_added g.F.BranchWork.kit g.F.BranchWork.may _ _ _ fs copies c.requires c.in_ok-push.ensures.items old
