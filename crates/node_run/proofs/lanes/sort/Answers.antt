use Rattle.std.proofs.Common.{◌∷◌, ap, refl}
use Rattle.node_run.proofs.Sorting.{first_sorted, other_sorted}
use Rattle.node_run.proofs.Edging.{lead_elsewhere, lead_joined, replica_elsewhere, replica_joined}
use Rattle.node_run.proofs.lanes.sort.Goals as goal

pub returns-in_ok-push-in-Replica-clause-nodes : goal.returns-in_ok-push-in-Replica-clause-nodes
returns-in_ok-push-in-Replica-clause-nodes g c fs copies todo h =
    other_sorted g.F.BranchWork.kit g.F.BranchWork.may _ _ _ _ _ todo c.in-Replica.branch fs copies refl c.in_ok-push-in-Replica.ensures.items (ap (λ y. y ∷ todo) c.in-Replica.is) h

pub returns-in_ok-push-in_default-clause-nodes : goal.returns-in_ok-push-in_default-clause-nodes
returns-in_ok-push-in_default-clause-nodes g c fs copies todo h = first_sorted g.F.BranchWork.kit g.F.BranchWork.may _ _ _ _ _ todo c.args.node fs copies c.in_ok-push-in_default.ensures.items refl refl h

pub returns-in_ok-push-in-Replica-clause-leads : goal.returns-in_ok-push-in-Replica-clause-leads
returns-in_ok-push-in-Replica-clause-leads g c = replica_elsewhere _ _ c.args.node c.in-Replica.branch c.in-Replica.is refl

pub returns-in_ok-push-in-Replica-clause-replicas : goal.returns-in_ok-push-in-Replica-clause-replicas
returns-in_ok-push-in-Replica-clause-replicas g c = replica_joined _ _ c.args.node c.in-Replica.branch c.in-Replica.is c.in_ok-push-in-Replica.ensures.items

pub returns-in_ok-push-in_default-clause-leads : goal.returns-in_ok-push-in_default-clause-leads
returns-in_ok-push-in_default-clause-leads g c = lead_joined _ _ c.args.node c.in_default.not-Replica c.in_ok-push-in_default.ensures.items

pub returns-in_ok-push-in_default-clause-replicas : goal.returns-in_ok-push-in_default-clause-replicas
returns-in_ok-push-in_default-clause-replicas g c = lead_elsewhere _ _ c.args.node c.in_default.not-Replica refl
