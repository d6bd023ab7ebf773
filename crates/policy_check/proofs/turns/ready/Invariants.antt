use Rattle.std.proofs.Common.{◌≡◌, ◌&&◌, false, not, ℕ, ◌<◌}
use Rattle.policy_check.specs.Edges.{edges_of}
use Rattle.policy_check.specs.Turns.{is_held}
use Rattle.policy_check.specs.Waiting.{waits, is_up}
use Rattle.policy_check.proofs.turns.ready.Given as goal

abbrev pub invariant-loop-x : goal.invariant-loop-x
invariant-loop-x l =
    (k : ℕ) → k < l.x → (is_up l.waiting k && not (is_held (edges_of l.statements) (waits l.waiting) k)) ≡ false
