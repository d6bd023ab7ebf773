use Rattle.std.proofs.Common.{◌≡◌, []}
use Rattle.std.specs.Vec.{vec_capacity}
use Rattle.runners_tests.proofs.boards.collect.Given as goal

-- the packet isn't complete yet
abbrev pub invariant-loop : goal.invariant-loop
invariant-loop g l = record {
  iterator : (goal.iterator-loop g).can_next l.iterator' × (goal.iterator-loop g).is_finite l.iterator';
  board : l.seat.board ≡ l.initial.seat.board;
  merger : l.seat.merger ≡ l.initial.seat.merger;
  done : l.seat.done ≡ l.initial.seat.done;
  empty : l.into.items ≡ [];
  room : vec_capacity l.into ≡ vec_capacity l.initial.into;
}
