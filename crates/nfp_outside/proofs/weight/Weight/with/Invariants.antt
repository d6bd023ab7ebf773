-- The bytes so far are weighed.
use Rattle.std.proofs.Common.{◌≡◌, ◌+◌, take}
use Rattle.nfp_outside.specs.Weights.{heavier}
use Rattle.nfp_outside.proofs.weight.Weight.with.Given as goal

abbrev pub invariant-loop-byte : goal.invariant-loop-byte
invariant-loop-byte l = (l.weight ≡ heavier (take l.byte-index l.more) l.fn.self) × (l.weight.bytes ≡ l.fn.self.bytes + l.byte-index)
