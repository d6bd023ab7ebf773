use Rattle.burst_walk.specs.Leading.{classed_items}
use Rattle.burst_walk.proofs.Leading.{IsLeading}
use Rattle.burst_walk.proofs.lead.lead.Given as goal

abbrev pub invariant-chains : goal.invariant-chains
invariant-chains g l = IsLeading (λ v. v.items) (classed_items l.unit l.burst.items) l.fn.chains l.chain-iterator.rest.items l.led.items l.number l.rows.items
