use Rattle.traced_run.proofs.UnderWay.{IsUnderWay}
use Rattle.traced_run.proofs.chain.trace_chain.Given as goal

abbrev pub invariant-functions : goal.invariant-functions
invariant-functions g l = IsUnderWay g.F.Function.behaviour g.F.Function.decides l.time l.position l.fn.functions l.fn.frame l.fn.trace l.index l.functions l.packet l.trace
