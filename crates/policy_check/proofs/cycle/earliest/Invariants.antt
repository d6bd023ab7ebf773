use Rattle.std.proofs.Common.{◌≡◌, ◌&&◌, true, false, ℕ, ◌<◌}
use Rattle.policy_check.specs.Waiting.{is_up}
use Rattle.policy_check.proofs.cycle.earliest.Given as goal

abbrev pub invariant-loop-x : goal.invariant-loop-x
invariant-loop-x l = (k : ℕ) → k < l.x → (is_up l.waiting k && true) ≡ false
