use Rattle.std.specs.Prelude.{map}
use Rattle.burst_walk.proofs.Queues.{IsWeaving}
use Rattle.burst_walk.proofs.weave.weave.Given as goal

abbrev pub invariant-items : goal.invariant-items
invariant-items l = IsWeaving l.items (map (λ v. v.items) l.fn.rows.items) (map (λ q. q.rest.items) l.rows.items) l.fates.items l.item-index
