-- For proofs: how reading up to a number of bytes takes bytes off those that remain in a slot.
use Rattle.std.specs.Prelude.{◌≡◌, ◌≤◌, ◌<◌, ℕ, List, ◌++◌, length, take, drop, Some, None, MatchOption}
use Rattle.std.specs.Option.{option_map}
use Rattle.nfp_outside.specs.Outside.{SlotView}

-- the first `k` bytes that remained are at the front of the buffer; fewer than it holds only if no more remained
pub record FillsFrom (k : ℕ) (bytes buffer : List ℕ) (new : SlotView) : Type 0 where
  pub some_left : k ≤ length bytes
  pub front : take k buffer ≡ take k bytes
  pub rest : new.bytes ≡ Some (drop k bytes)
  pub end_only : k < length buffer → length bytes ≡ k

pub record Fills (k : ℕ) (buffer : List ℕ) (old new : SlotView) : Type 0 where
  pub within : k ≤ length buffer
  pub same_name : new.name ≡ old.name
  pub told : MatchOption old.bytes (new.bytes ≡ None) (λ bytes. FillsFrom k bytes buffer new)

-- a slot as it was before these bytes were taken off its front
abbrev pub unread : List ℕ → SlotView → SlotView
unread first slot = record { name = slot.name; bytes = option_map (λ left. first ++ left) slot.bytes; weight = slot.weight; faults = slot.faults }
