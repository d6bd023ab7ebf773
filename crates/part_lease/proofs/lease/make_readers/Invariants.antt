use Rattle.std.proofs.Common.{◌≡◌, All, length}
use Rattle.part_lease.proofs.lease.make_readers.Given as goal

-- as many readers as turns so far, each of what the slot was made for
abbrev pub invariant-loop-i : goal.invariant-loop-i
invariant-loop-i g l = (length l.made.items ≡ l._i) × All (λ r. r ≡ l.slot.value.value) l.made.items
