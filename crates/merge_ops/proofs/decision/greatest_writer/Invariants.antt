use Rattle.std.proofs.Common.{◌≡◌, drop, max}
use Rattle.merge_ops.specs.Merging.{greatest_writer}
use Rattle.merge_ops.proofs.decision.greatest_writer.Given as goal

abbrev pub invariant-loop-arrival : goal.invariant-loop-arrival
invariant-loop-arrival l = max l.greatest (greatest_writer (drop l.arrival-index l.arrivals) l.field) ≡ greatest_writer l.arrivals l.field
