use Rattle.std.proofs.Common.{◌≡◌}
use Rattle.ruled_links.proofs.taker.Taker.take.Given as goal

-- no message was taken so far
abbrev pub invariant-loop : goal.invariant-loop
invariant-loop g l =
    (goal.iterator-loop g).can_next l.iterator' × (goal.iterator-loop g).is_finite l.iterator' × (l.self ≡ l.initial.self)
