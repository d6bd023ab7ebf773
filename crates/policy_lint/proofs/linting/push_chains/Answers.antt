use Rattle.std.proofs.Common.{◌≡◌, ◌++◌, ◌∙◌, take, ap, rules}
use Rattle.policy_lint.specs.Findings.{told_in}
use Rattle.policy_lint.proofs.Steps.{goes_on, told_here}
use Rattle.policy_lint.proofs.linting.push_chains.Goals as goal

pub chains-preserved : goal.chains-preserved
chains-preserved c =
    let step : c.push_chain.new.found ≡ c.chains.found ++ told_in c.args.cuts.now c.order_at-order.result.now (take c.chains.place c.args.chains.now) c.index-chains-place.result = search rules in
    goes_on _ c.args.chains.now c.args.found.now c.chains.place c.chains.found c.push_chain.new.found c.index-chains-place.result c.index-chains-place.result c.chains.invariant (search rules) (search rules)
    (step ∙ ap (λ l. c.chains.found ++ l) (told_here c.args.cuts.now c.args.orders.now c.args.chains.now c.index-chains-place.result c.order_at-order.result.now c.chains.place c.chains-test.true c.order_at-order.ensures))
