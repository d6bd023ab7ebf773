-- Believed: what a desk shows of each of its slots, and how its calls change that.
use Rattle.std.specs.Prelude.{◌≡◌, ◌<◌, ◌≤◌, ◌+◌, ◌^◌, ◌-◌, ◌⊎◌, ℕ, List, [], ◌++◌, length, take, drop, Bool, true, false, if◌then◌else◌, Option, Some, None, MatchOption, Result, Ok, Err, IsErrOf, min}
use Rattle.std.specs.Option.{option_map}
use Rattle.nfp_outside.specs.declared.slot.Slot.{Slot}
use Rattle.nfp_outside.specs.declared.slot.Slot.TheVariants.{Policy, Capture, Out, Report, Note, Graph}
use Rattle.nfp_outside.specs.declared.slot.DeskFault.{DeskFault}
use Rattle.nfp_outside.specs.declared.slot.DeskFault.TheVariants.{Failed, NoMemory}
use Rattle.nfp_outside.specs.declared.slot.OutsideFault.{OutsideFault}
use Rattle.nfp_outside.specs.declared.slot.OutsideFault.TheVariants.{ReadFault, WriteFault, TooLong}
use Rattle.nfp_outside.specs.declared.weight.Weight.{Weight}
use Rattle.nfp_outside.specs.Weights.{no_weight, heavier}

-- A slot as contracts see it: the name it is attached with, the bytes that remain in a read slot
-- or were put into a write slot (if the desk shows them), the weight of the bytes that were put
-- (if it shows that), and the number of its failures.
pub record SlotView : Type 0 where
  pub name : Option (List ℕ)
  pub bytes : Option (List ℕ)
  pub weight : Option Weight
  pub faults : ℕ

-- a slot that has no name yet, didn't fail, and shows no weight
abbrev pub fresh_slot : Option (List ℕ) → SlotView
fresh_slot bytes = record { name = None; bytes = bytes; weight = None; faults = 0 }

abbrev pub is_read : Slot → Bool
is_read Policy = true
is_read Capture = true
is_read Out = false
is_read Report = false
is_read Note = false
is_read Graph = true

-- a count has risen from `before` to `now`, or is at the end of its type
abbrev pub IsRisen : ℕ → ℕ → Type 0
IsRisen before now = (before < now) ⊎ (now ≡ 2 ^ 64 - 1)

-- a u64 count after one more; it stays at the end of its type
abbrev pub one_more : ℕ → ℕ
one_more n = min (n + 1) (2 ^ 64 - 1)

-- a count of faults rises by one if a call failed, and else stays
abbrev pub CountsFailure : {T : Type 0} → ℕ → ℕ → Result T DeskFault → Type 0
CountsFailure before now (Ok _) = now ≡ before
CountsFailure before now (Err Failed) = now ≡ one_more before
CountsFailure before now (Err NoMemory) = now ≡ before

-- the name of a slot, its bytes and their weight stay
pub record KeepsSlot (old new : SlotView) : Type 0 where
  pub same_name : new.name ≡ old.name
  pub same_bytes : new.bytes ≡ old.bytes
  pub same_weight : new.weight ≡ old.weight

-- the slot has this name now; a write slot is made empty
pub record Attaches (slot : Slot) (text : List ℕ) (old new : SlotView) : Type 0 where
  pub named : new.name ≡ Some text
  pub content : new.bytes ≡ (if is_read slot then old.bytes else option_map (λ _. []) old.bytes)
  pub weighs : new.weight ≡ (if is_read slot then old.weight else option_map (λ _. no_weight) old.weight)

-- the first `k` bytes that remained are at the front of the buffer, and the others remain
pub record Takes (k : ℕ) (bytes : List ℕ) (buffer : List ℕ) (new : SlotView) : Type 0 where
  pub some_left : k ≤ length bytes
  pub front : take k buffer ≡ take k bytes
  pub rest : new.bytes ≡ Some (drop k bytes)
  pub end_only : k ≡ 0 → 0 < length buffer → bytes ≡ []

-- a read moved `k` bytes into a buffer
pub record Reads (k : ℕ) (buffer : List ℕ) (old new : SlotView) : Type 0 where
  pub within : k ≤ length buffer
  pub same_name : new.name ≡ old.name
  pub same_weight : new.weight ≡ old.weight
  pub told : MatchOption old.bytes (new.bytes ≡ None) (λ bytes. Takes k bytes buffer new)

-- the bytes are appended to those that were put before
pub record Appends (bytes : List ℕ) (old new : SlotView) : Type 0 where
  pub same_name : new.name ≡ old.name
  pub content : new.bytes ≡ option_map (λ before. before ++ bytes) old.bytes
  pub weighs : new.weight ≡ option_map (heavier bytes) old.weight

-- a write took the first `k` bytes of a piece, at least one if the piece isn't empty
pub record Writes (k : ℕ) (piece : List ℕ) (old new : SlotView) : Type 0 where
  pub within : k ≤ length piece
  pub some_taken : 0 < length piece → 0 < k
  pub appended : Appends (take k piece) old new

-- the count doesn't fall, and a failure raised it
pub record HasCause {T : Type 0} (old new : SlotView) (result : Result T DeskFault) : Type 0 where
  pub later : old.faults ≤ new.faults
  pub failed : IsErrOf result Failed → IsRisen old.faults new.faults

-- these are all the bytes that remained, and none remain now
pub record ReadsAll (all : List ℕ) (max : ℕ) (old new : SlotView) : Type 0 where
  pub within : length all ≤ max
  pub told : MatchOption old.bytes (new.bytes ≡ None) (λ bytes. (bytes ≡ all) × (new.bytes ≡ Some []))

-- more than `max` bytes remained, and `max` + 1 of them were taken
abbrev pub ReadsTooMuch : ℕ → SlotView → SlotView → Type 0
ReadsTooMuch max old new = MatchOption old.bytes (new.bytes ≡ None) (λ bytes. (max < length bytes) × (new.bytes ≡ Some (drop (max + 1) bytes)))

-- at most this number of bytes was taken off the front of those that remained
pub record TakesFront (most : ℕ) (old new : SlotView) : Type 0 where
  pub same_name : new.name ≡ old.name
  pub told : MatchOption old.bytes (new.bytes ≡ None) (λ bytes. (k : ℕ) × (k ≤ most) × (new.bytes ≡ Some (drop k bytes)))

-- a prefix of the bytes is appended to those that were put before
pub record AppendsPrefix (bytes : List ℕ) (old new : SlotView) : Type 0 where
  pub done : List ℕ
  pub rest : List ℕ
  pub parts : bytes ≡ done ++ rest
  pub appended : Appends done old new

-- reading returns a read fault of this slot alone, and only if its count rose
pub record ReadCause {T : Type 0} (slot : Slot) (old new : SlotView) (result : Result T OutsideFault) : Type 0 where
  pub later : old.faults ≤ new.faults
  pub read_fault : (s : Slot) → IsErrOf result (ReadFault s) → (s ≡ slot) × IsRisen old.faults new.faults
  pub no_write_fault : (s : Slot) → IsErrOf result (WriteFault s) → ⊥

-- writing returns a write fault of this slot alone, and only if its count rose
pub record WriteCause {T : Type 0} (slot : Slot) (old new : SlotView) (result : Result T OutsideFault) : Type 0 where
  pub later : old.faults ≤ new.faults
  pub write_fault : (s : Slot) → IsErrOf result (WriteFault s) → (s ≡ slot) × IsRisen old.faults new.faults
  pub no_read_fault : (s : Slot) → IsErrOf result (ReadFault s) → ⊥
  pub not_too_long : IsErrOf result TooLong → ⊥
