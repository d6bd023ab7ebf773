use Rattle.std.proofs.Common.{◌≡◌, ◌++◌, ◌-◌, ◌≤◌, length, drop}
use Rattle.std.specs.Option.{option_map}
use Rattle.policy_text.specs.Bytes.{bytes_of}
use Rattle.policy_text.proofs.bytes.bytes_of.Given as goal

-- the bytes so far and those of the rest are all of them
abbrev pub invariant-pairs : goal.invariant-pairs
invariant-pairs l = (l.at ≤ length l.digits) × (option_map (λ bs. l.bytes.items ++ bs) (bytes_of (drop l.at l.digits)) ≡ bytes_of l.digits)

abbrev pub decreases-pairs : goal.decreases-pairs
decreases-pairs l = length l.digits - l.at
