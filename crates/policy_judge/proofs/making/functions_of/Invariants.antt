use Rattle.std.proofs.Common.{◌≡◌, take, map}
use Rattle.policy_judge.specs.Kept.{kept_each}
use Rattle.policy_judge.specs.Settings.{least_refused}
use Rattle.policy_judge.proofs.making.functions_of.Given as goal

abbrev pub invariant-chains : goal.invariant-chains
invariant-chains l = record {
  least : l.least ≡ least_refused (take l.chain-index l.chains);
  functions : l.functions.items ≡ map (λ c. kept_each c.functions) (take l.chain-index l.chains);
}
