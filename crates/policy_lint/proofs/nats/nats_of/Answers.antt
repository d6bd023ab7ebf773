use Rattle.std.proofs.Common.{◌≡◌, ◌++◌, ◌∙◌, ap, rules}
use Rattle.std.specs.Prelude.{filter_map}
use Rattle.policy_text.specs.declared.policy.ChainPolicy.{ChainPolicy}
use Rattle.policy_lint.specs.Nats.{nat_of}
use Rattle.policy_lint.proofs.Steps.{nats_more}
use Rattle.policy_lint.proofs.nats.nats_of.Goals as goal

pub chains-preserved : goal.chains-preserved
chains-preserved c =
    let step : c.keep_nats.new.nats ≡ c.chains.nats ++ filter_map nat_of c.index-chains-place.result.functions = search rules in
    nats_more c.args.chains.now c.chains.place c.index-chains-place.result c.chains.nats c.keep_nats.new.nats c.chains.invariant (search rules)
    (step ∙ ap (λ (x : ChainPolicy). c.chains.nats ++ filter_map nat_of x.functions) c.index-chains-place.is)
