use Rattle.std.proofs.Common.{◌≡◌, ◌≤◌, ◌++◌, map, replicate, take, drop, Some, None}
use Rattle.std.specs.Vec.{vec_capacity, vec_len}
use Rattle.acc_table.proofs.row.Row.hand_over.Given as goal

-- the values of the branches so far are handed over, and the others stay
abbrev pub invariant-loop-slot : goal.invariant-loop-slot
invariant-loop-slot g l =
    (map Some l.into.items ≡ take l.slot-index l.initial.slot-items)
    × (l.slot-items ≡ replicate l.slot-index None ++ drop l.slot-index l.initial.slot-items)
    × (vec_len l.into ≡ l.slot-index)
    × (vec_capacity l.fn.into ≤ vec_capacity l.into)
