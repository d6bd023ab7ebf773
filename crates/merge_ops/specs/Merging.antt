-- For proofs: what becomes of a packet after a stage: the part of each field that was written last, or a drop.
use Rattle.std.specs.Prelude.{◌==◌, ℕ, Bool, true, false, if◌then◌else◌, List, [], ◌∷◌, Option, Some, None, max, min, map, position}
use Rattle.std.specs.List.{list_any}
use Rattle.packet_fields.specs.declared.field.Field.{Field}
use Rattle.packet_fields.specs.declared.field.Field.TheVariants.{Tag}
use Rattle.action_profile.specs.FieldSets.{all_fields}
use Rattle.packet_version.specs.Parts.{PlainPart, writer_in}
use Rattle.packet_version.specs.Versions.{version_parts}
use Rattle.merge_ops.specs.declared.arrival.Arrival.{Arrival}
use Rattle.merge_ops.specs.declared.arrival.Arrival.TheVariants.{Version, Nil, Short}
use Rattle.merge_ops.specs.declared.decision.MergeOp.{MergeOp}
use Rattle.merge_ops.specs.declared.decision.MergeOp.TheVariants.{Keep, Modify, SetTags}
use Rattle.merge_ops.specs.declared.decision.Decision.{Decision}
use Rattle.merge_ops.specs.declared.decision.Decision.TheVariants.{Take, Gone, Short as Halted}

-- a worker ran out of memory
abbrev pub is_short : Arrival → Bool
is_short Short = true
is_short arrival = false

-- where the packet was dropped
abbrev pub nil_of : Arrival → Option ℕ
nil_of (Nil p) = Some p
nil_of arrival = None

-- the part that a branch has of a field
abbrev pub part_of : Field → Arrival → Option PlainPart
part_of f (Version v) = version_parts v f
part_of f (Nil p) = None
part_of f Short = None

-- the last writer of the field in the branch, 0 if none
abbrev pub writer_of : Field → Arrival → ℕ
writer_of f arrival = writer_in (part_of f arrival)

-- the lesser of two positions, if there are two
abbrev pub lesser : Option ℕ → Option ℕ → Option ℕ
lesser None q = q
lesser (Some p) None = Some p
lesser (Some p) (Some q) = Some (min p q)

-- the least position at which the packet was dropped
abbrev pub least_nil : List Arrival → Option ℕ
least_nil [] = None
least_nil (arrival ∷ others) = lesser (nil_of arrival) (least_nil others)

-- the greatest writer of a field, 0 if there is none
abbrev pub greatest_writer : List Arrival → Field → ℕ
greatest_writer [] f = 0
greatest_writer (arrival ∷ others) f = max (writer_of f arrival) (greatest_writer others f)

-- the branch that wrote the field last, if one wrote it
unfoldable pub last_writer : List Arrival → Field → Option ℕ
last_writer arrivals f =
    if greatest_writer arrivals f == 0
    then None
    else position (λ a. writer_of f a == greatest_writer arrivals f) arrivals

-- what to do with a field that this branch wrote last
abbrev pub op_from : Field → Option ℕ → MergeOp
op_from f None = Keep
op_from Tag (Some branch) = SetTags branch
op_from f (Some branch) = Modify branch

abbrev pub op_of : List Arrival → Field → MergeOp
op_of arrivals f = op_from f (last_writer arrivals f)

-- dropped if it was dropped, else an operation for each field
abbrev pub decided_by : List Arrival → Option ℕ → Decision
decided_by arrivals (Some p) = Gone p
decided_by arrivals None = Take (map (op_of arrivals) all_fields)

-- what becomes of the packet
unfoldable pub decision_of : List Arrival → Decision
decision_of arrivals = if list_any is_short arrivals then Halted else decided_by arrivals (least_nil arrivals)
