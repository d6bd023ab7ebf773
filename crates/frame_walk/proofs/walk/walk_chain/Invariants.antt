use Rattle.frame_walk.proofs.Walking.{IsUnderWay}
use Rattle.frame_walk.proofs.walk.walk_chain.Given as goal

abbrev pub invariant-functions : goal.invariant-functions
invariant-functions g l = IsUnderWay g.F.Function.behaviour l.time l.fn.functions l.fn.frame l.index l.functions l.frame
