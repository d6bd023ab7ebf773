use Rattle.std.proofs.Common.{◌≡◌, drop}
use Rattle.merge_ops.specs.Merging.{lesser, least_nil}
use Rattle.merge_ops.proofs.decision.least_nil.Given as goal

abbrev pub invariant-loop-arrival : goal.invariant-loop-arrival
invariant-loop-arrival l = lesser l.least (least_nil (drop l.arrival-index l.arrivals)) ≡ least_nil l.arrivals
