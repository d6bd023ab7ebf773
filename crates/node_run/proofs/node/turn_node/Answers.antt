use Rattle.node_run.proofs.Turning.{branch_turned, dealer_turned}
use Rattle.node_run.proofs.node.turn_node.Goals as goal

pub returns-in-Dealer : goal.returns-in-Dealer
returns-in-Dealer g c = dealer_turned g.F.BranchWork.kit g.F.BranchWork.may _ _ _ c.in-Dealer.is c.requires c.turn.ensures.owes c.turn.ensures.ample

pub returns-in-Branch : goal.returns-in-Branch
returns-in-Branch g c = branch_turned g.F.BranchWork.kit g.F.BranchWork.may _ _ _ c.in-Branch.is c.requires c.turn-in-Branch.ensures.owes c.turn-in-Branch.ensures.ample
