use Rattle.std.proofs.Common.{refl}
use Rattle.node_run.proofs.Crewing.{none_turned, one_turned}
use Rattle.node_run.proofs.crew.turn_at.Goals as goal

pub returns-then-not-is_next : goal.returns-then-not-is_next
returns-then-not-is_next g c = none_turned g.F.BranchWork.kit g.F.BranchWork.may _ _ refl c.requires.going

pub returns : goal.returns
returns g c = one_turned g.F.BranchWork.kit g.F.BranchWork.may _ _ _ _ c.requires.inside c.requires.going c.turn_node.ensures
