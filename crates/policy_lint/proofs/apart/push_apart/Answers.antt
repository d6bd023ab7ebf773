use Rattle.std.proofs.Common.{rules}
use Rattle.policy_lint.proofs.Steps.{goes_on}
use Rattle.policy_lint.proofs.apart.push_apart.Goals as goal

pub chains-preserved : goal.chains-preserved
chains-preserved c = goes_on _ c.args.chains.now c.args.found.now c.chains.place c.chains.found c.push_apart_in.new.found c.index-chains-place.result c.index-chains-place.result c.chains.invariant (search rules) (search rules) (search rules)
