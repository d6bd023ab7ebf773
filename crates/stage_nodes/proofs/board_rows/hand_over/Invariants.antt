use Rattle.std.proofs.Common.{◌≡◌, ◌+◌, ◌++◌, ◌≤◌, length, map}
use Rattle.std.specs.Vec.{vec_capacity}
use Rattle.std.specs.Vec.Iter.{drain_items, DrainKeeps}
use Rattle.stage_nodes.specs.Streams.{as_arrival}
use Rattle.stage_nodes.proofs.board_rows.hand_over.Given as goal

abbrev pub invariant-loop-parcel : goal.invariant-loop-parcel
invariant-loop-parcel l =
    (goal.iterator-loop-parcel).can_next l.parcel-iterator ×
    (goal.iterator-loop-parcel).is_finite l.parcel-iterator ×
    DrainKeeps l.initial.parcel-iterator l.parcel-iterator ×
    (l.row.items ++ map as_arrival (drain_items l.parcel-iterator) ≡ map as_arrival (drain_items l.initial.parcel-iterator)) ×
    (length l.row.items + length (drain_items l.parcel-iterator) ≤ vec_capacity l.row)
