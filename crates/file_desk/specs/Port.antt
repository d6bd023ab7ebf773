-- For proofs: what a slot over a file shows: its name and its count of faults, and no bytes; and the account of its file.
use Rattle.std.specs.Prelude.{ℕ, ◌≡◌, List, [], Bool, true, Option, Some, None, IfSome, option_and_then}
use Rattle.std.specs.Option.{option_map}
use Rattle.std.specs.String.{string_bytes}
use Rattle.std.specs.Io.Buffered.{writer_inner, writer_buffer, reader_inner, reader_remaining}
use Rattle.std.specs.declared.io.buffered.BufReader.{BufReader}
use Rattle.std.specs.declared.io.buffered.BufWriter.{BufWriter}
use Rattle.file_desk.specs.declared.identity.Identity.{Identity}
use Rattle.file_desk.specs.declared.port.Port.{Port}
use Rattle.file_desk.specs.declared.target.Target.{Target}
use Rattle.file_desk.specs.Accounts.{Account, put_in, IsWhole}
use Rattle.nfp_outside.specs.declared.slot.Slot.{Slot}
use Rattle.nfp_outside.specs.Outside.{SlotView}
use Rattle.nfp_outside.specs.Slots.{at_slot}

abbrev pub port_view : {F : Type 0} → Port F → SlotView
port_view p = record { name = option_map string_bytes p.name; bytes = None; weight = None; faults = p.faults }

-- a slot over standard output has no name
abbrev pub stream_view : ℕ → SlotView
stream_view faults = record { name = None; bytes = None; weight = None; faults = faults }

-- the bytes that are left in a file to read, if it shows them
abbrev pub left_in : {F A : Type 0} → (F → Option (List ℕ)) → Port (BufReader F A) → Option (List ℕ)
left_in remaining p = option_and_then (reader_remaining remaining) p.file

-- those that are left in the file of a slot; no byte is known of a slot that is written
abbrev pub left_at : {F A : Type 0} → (F → Option (List ℕ)) → Port (BufReader F A) → Port (BufReader F A) → Port (BufReader F A) → Slot → Option (List ℕ)
left_at remaining policy capture graph = at_slot (left_in remaining policy) (left_in remaining capture) None None None (left_in remaining graph)

-- the account of a file to write, by what the file shows of itself
abbrev pub account_of : {F A : Type 0} → (F → Option (List ℕ)) → BufWriter (Target F) A → Account
account_of contents w = record { holds = contents (writer_inner w).file; is_emptied = (writer_inner w).is_emptied; gathered = writer_buffer w }

-- that of the file of a slot, if the slot is attached
abbrev pub account : {F A : Type 0} → (F → Option (List ℕ)) → Port (BufWriter (Target F) A) → Option Account
account contents p = option_map (account_of contents) p.file

-- the bytes that were put into the file of a slot, if the file shows them
abbrev pub bytes_put : Option Account → Option (List ℕ)
bytes_put a = option_and_then put_in a

-- the identity of the file of a slot, if the slot is attached and the system showed it
abbrev pub input_identity : {F A : Type 0} → (F → Option Identity) → Port (BufReader F A) → Option Identity
input_identity {F = F} {A = A} known_as p = option_and_then (λ (r : BufReader F A). known_as (reader_inner r)) p.file

abbrev pub output_identity : {F A : Type 0} → (F → Option Identity) → Port (BufWriter (Target F) A) → Option Identity
output_identity {F = F} {A = A} known_as p = option_and_then (λ (w : BufWriter (Target F) A). known_as (writer_inner w).file) p.file

-- nothing is gathered for a slot, unless a call on it has failed
abbrev pub IsHandedOn : {F A : Type 0} → (F → Option (List ℕ)) → Port (BufWriter (Target F) A) → Type 0
IsHandedOn contents p = p.faults ≡ 0 → IfSome (account contents p) (λ a. a.gathered ≡ [])

-- all that the file of a slot holds was brought to the disk, unless a call on the slot has failed
abbrev pub IsSynced : {F A : Type 0} → (F → Bool) → Port (BufWriter (Target F) A) → Type 0
IsSynced {F = F} {A = A} on_disk p = p.faults ≡ 0 → IfSome p.file (λ (w : BufWriter (Target F) A). on_disk (writer_inner w).file ≡ true)

-- the file of a slot, if it is attached, holds what was put, and no call on the slot has failed
pub record IsWritten {F A : Type 0} (contents : F → Option (List ℕ)) (p : Port (BufWriter (Target F) A)) : Type 0 where
  pub no_fault : p.faults ≡ 0
  pub whole : IfSome (account contents p) IsWhole
