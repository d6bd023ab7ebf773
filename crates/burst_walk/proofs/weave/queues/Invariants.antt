use Rattle.std.specs.Prelude.{◌≡◌, ◌++◌, map}
use Rattle.burst_walk.proofs.weave.queues.Given as goal

abbrev pub invariant-rows : goal.invariant-rows
invariant-rows l = map (λ q. q.rest.items) l.queues.items ++ map (λ v. v.items) l.row-iterator.rest.items ≡ map (λ v. v.items) l.fn.rows.items
