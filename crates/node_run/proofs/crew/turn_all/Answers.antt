use Rattle.std.proofs.Common.{refl}
use Rattle.node_run.proofs.Crewing.{more_turned, none_turned}
use Rattle.node_run.proofs.crew.turn_all.Goals as goal

pub loop-index-init : goal.loop-index-init
loop-index-init g c = none_turned g.F.BranchWork.kit g.F.BranchWork.may _ _ refl c.requires

pub loop-index-preserved : goal.loop-index-preserved
loop-index-preserved g c = more_turned g.F.BranchWork.kit g.F.BranchWork.may _ _ _ c.loop-index.invariant c.turn_at.ensures
