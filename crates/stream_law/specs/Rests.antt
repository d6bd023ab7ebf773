-- For proofs: what is left of the frames of a burst.
use Rattle.std.specs.Prelude.{◌≡◌, ℕ, List, length, Some, slice_get}
use Rattle.merge_ops.specs.declared.merging.Merged.{Merged}
use Rattle.merge_ops.specs.declared.merging.Merged.TheVariants.{Whole, Gone, Short}

-- what is left of a frame without its fields stays, if the packet wasn't dropped
abbrev pub KeepsRest : Merged → Merged → Type 0
KeepsRest (Whole whole) (Whole after) = after.rest ≡ whole.rest
KeepsRest (Whole whole) (Gone p) = Unit {0}
KeepsRest (Gone p) after = after ≡ Gone p
KeepsRest before after = ⊥

-- After all stages there is one packet for each, in their order.
pub record KeepsRests (packets after : List Merged) : Type 0 where
  pub count : length after ≡ length packets
  pub each : (k : ℕ) (m n : Merged) → slice_get packets k ≡ Some m → slice_get after k ≡ Some n → KeepsRest m n
