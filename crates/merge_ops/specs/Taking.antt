-- For proofs: which branch the part of a field is taken from, and what the merged packet has.
use Rattle.std.specs.Prelude.{◌≡◌, ◌<◌, ℕ, Bool, true, false, if◌then◌else◌, List, length, Option, Some, None, is_some, IfSome, map, position, slice_index_or}
use Rattle.std.specs.Option.{option_or}
use Rattle.packet_fields.specs.declared.field.Field.{Field}
use Rattle.action_profile.specs.Modes.{has_write}
use Rattle.packet_version.specs.Parts.{PlainPart, Parts, as_list}
use Rattle.packet_version.specs.Splitting.{PlainApart, packet_parts}
use Rattle.packet_version.specs.Versions.{with_part}
use Rattle.merge_ops.specs.Merging.{part_of, writer_of, last_writer, decision_of}
use Rattle.merge_ops.specs.declared.arrival.Arrival.{Arrival}
use Rattle.merge_ops.specs.declared.arrival.Arrival.TheVariants.{Version, Nil, Short}
use Rattle.merge_ops.specs.declared.decision.MergeOp.{MergeOp}
use Rattle.merge_ops.specs.declared.decision.MergeOp.TheVariants.{Keep, Modify, SetTags}
use Rattle.merge_ops.specs.declared.decision.Decision.{Decision}
use Rattle.merge_ops.specs.declared.decision.Decision.TheVariants.{Take, Gone as IsGone, Short as IsShort}
use Rattle.merge_ops.specs.declared.merging.Merged.{Merged}
use Rattle.merge_ops.specs.declared.merging.Merged.TheVariants.{Whole, Gone, Short as Halted}

-- the branch writes the field
abbrev pub writes_in : Field → Arrival → Bool
writes_in f (Version v) = has_write f v.touch
writes_in f (Nil p) = false
writes_in f Short = false

-- the same arrival without its part of the field
abbrev pub without : Field → Arrival → Arrival
without f (Version v) = Version (with_part f None v)
without f (Nil p) = Nil p
without f Short = Short

abbrev pub arrival_at : List Arrival → ℕ → Arrival
arrival_at arrivals branch = slice_index_or arrivals branch Short

-- the branch that an operation names
abbrev pub branch_of : MergeOp → Option ℕ
branch_of Keep = None
branch_of (Modify branch) = Some branch
branch_of (SetTags branch) = Some branch

-- The branch that gives a part: the field's last writer; else none if the base has it, else the original's branch.
abbrev pub source : Field → List Arrival → Option ℕ → Option PlainPart → Option ℕ
source f arrivals (Some branch) own = Some branch
source f arrivals None own = if is_some own then None else position (writes_in f) arrivals

abbrev pub part_from : Field → List Arrival → Option ℕ → Option PlainPart
part_from f arrivals None = None
part_from f arrivals (Some branch) = part_of f (arrival_at arrivals branch)

-- the part of that branch, else the base's own
abbrev pub part_behind : Field → List Arrival → Option ℕ → Option PlainPart → Option PlainPart
part_behind f arrivals last own = option_or (part_from f arrivals (source f arrivals last own)) own

-- the parts of the merged packet
unfoldable pub merged_parts : PlainApart → List Arrival → Parts
merged_parts base arrivals f = part_behind f arrivals (last_writer arrivals f) (packet_parts base f)

abbrev pub with_parts : PlainApart → Parts → PlainApart
with_parts base parts = record base { parts = as_list parts }

-- the base with those parts
abbrev pub merged_packet : PlainApart → List Arrival → PlainApart
merged_packet base arrivals = with_parts base (merged_parts base arrivals)

abbrev pub merged_by : PlainApart → List Arrival → Decision → Merged
merged_by base arrivals (Take ops) = Whole (merged_packet base arrivals)
merged_by base arrivals (IsGone p) = Gone p
merged_by base arrivals IsShort = Halted

-- what leaves the stage
abbrev pub merged : PlainApart → List Arrival → Merged
merged base arrivals = merged_by base arrivals (decision_of arrivals)

-- this branch, if there is one, writes the field
abbrev pub IsWriting : Field → List Arrival → Option ℕ → Type 0
IsWriting f arrivals branch = IfSome branch (λ b. (b < length arrivals) × (writes_in f (arrival_at arrivals b) ≡ true))

-- this branch, if there is one, wrote the field
abbrev pub IsWritten : Field → List Arrival → Option ℕ → Type 0
IsWritten f arrivals branch = IfSome branch (λ b. (b < length arrivals) × (0 < writer_of f (arrival_at arrivals b)))

-- two lists of arrivals that have the same for a field
pub record SameIn (f : Field) (old new : List Arrival) : Type 0 where
  pub parts : map (part_of f) new ≡ map (part_of f) old
  pub writes : map (writes_in f) new ≡ map (writes_in f) old
