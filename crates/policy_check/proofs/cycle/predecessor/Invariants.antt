use Rattle.std.proofs.Common.{◌≡◌, ◌&&◌, false, ℕ, ◌<◌}
use Rattle.policy_check.specs.Edges.{edges_of}
use Rattle.policy_check.specs.Waiting.{is_up}
use Rattle.policy_check.proofs.cycle.predecessor.Given as goal

abbrev pub invariant-loop-a : goal.invariant-loop-a
invariant-loop-a l = (k : ℕ) → k < l.a → (is_up l.left k && edges_of l.statements k l.x) ≡ false
