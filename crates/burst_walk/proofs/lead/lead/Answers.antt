use Rattle.std.proofs.Common.{◌∙◌}
use Rattle.burst_walk.specs.Leading.{classed_items}
use Rattle.burst_walk.proofs.Leading.{leading_begins, leading_goes_on}
use Rattle.burst_walk.proofs.lead.lead.Goals as goal

pub chains-init : goal.chains-init
chains-init g c = leading_begins (λ v. v.items) (classed_items c.args.unit c.args.burst.now.items) c.args.chains _ _ _ (c.into_iter-chain-iterator.ensures.into_iter_gives.0 ∙ c.into_vec-chain-items.ensures) c.new-led.ensures.items c.new-rows.ensures.items

pub chains-preserved : goal.chains-preserved
chains-preserved g c = leading_goes_on (λ v. v.items) (classed_items c.args.unit c.args.burst.now.items) c.args.chains c.chains.chain-iterator.rest.items _ c.chains.led.items _ c.chains.number c.chains.rows.items _ c.in-Some.chain c.in_ok-chain.chain
    c.in_ok-chain.fates c.chains.invariant c.in-Some.ensures.steps.0 c.in_ok-chain.ensures.led c.in_ok-chain.ensures.fates c.in_ok-chain.ensures.writable c.in_ok-push.ensures.items c.in_ok-push-2.ensures.items
