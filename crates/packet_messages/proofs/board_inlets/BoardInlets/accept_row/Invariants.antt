use Rattle.std.proofs.Common.{◌≡◌, []}
use Rattle.std.specs.Vec.{vec_capacity}
use Rattle.packet_messages.proofs.board_inlets.BoardInlets.accept_row.Given as goal

-- nothing was taken so far
abbrev pub invariant-loop : goal.invariant-loop
invariant-loop g l =
    (goal.iterator-loop g).can_next l.iterator' × (goal.iterator-loop g).is_finite l.iterator' × (l.self ≡ l.initial.self) × (l.row.items ≡ []) × (vec_capacity l.row ≡ vec_capacity l.initial.row)
