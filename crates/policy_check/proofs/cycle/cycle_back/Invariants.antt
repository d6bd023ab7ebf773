use Rattle.std.proofs.Common.{◌-◌, suc, length}
use Rattle.policy_check.specs.Edges.{edges_of}
use Rattle.policy_check.specs.Waiting.{waits}
use Rattle.policy_check.proofs.Cycling.{GoesBack}
use Rattle.policy_check.proofs.cycle.cycle_back.Given as goal

abbrev pub invariant-back : goal.invariant-back
invariant-back l = GoesBack (edges_of l.statements) (waits l.left) l.start l.at l.trail.items

abbrev pub decreases-back : goal.decreases-back
decreases-back l = suc (length (waits l.left)) - length l.trail.items
