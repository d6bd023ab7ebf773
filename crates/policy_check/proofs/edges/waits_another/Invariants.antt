use Rattle.std.proofs.Common.{◌≡◌, ◌==◌, ◌&&◌, false, not, ℕ, ◌<◌}
use Rattle.policy_check.specs.Waiting.{is_up}
use Rattle.policy_check.proofs.edges.waits_another.Given as goal

abbrev pub invariant-loop-a : goal.invariant-loop-a
invariant-loop-a l = (k : ℕ) → k < l.a → (is_up l.waiting k && not (k == l.x)) ≡ false
