use Rattle.std.proofs.Common.{◌≡◌, length, replicate, true}
use Rattle.policy_check.specs.Edges.{edges_of}
use Rattle.policy_check.specs.Waiting.{waits}
use Rattle.policy_check.proofs.OneTurn.{HasTurned}
use Rattle.policy_check.proofs.turns.take_turns.Given as goal

abbrev pub invariant-turns : goal.invariant-turns
invariant-turns l = record {
  turned : HasTurned (edges_of l.statements) (replicate l.count true) l.left.items l.order.items;
  len : length l.left.items ≡ l.count;
}

abbrev pub decreases-turns : goal.decreases-turns
decreases-turns l = length (waits l.left.items)
