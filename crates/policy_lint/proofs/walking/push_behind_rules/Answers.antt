use Rattle.std.proofs.Common.{rules}
use Rattle.policy_lint.proofs.Steps.{goes_on}
use Rattle.policy_lint.proofs.walking.push_behind_rules.Goals as goal

pub rules-preserved : goal.rules-preserved
rules-preserved c = goes_on _ c.args.rules.now c.args.found.now c.rules.place c.rules.found c.push_hidden.new.found c.index-rules-place.result c.index-rules-place.result c.rules.invariant (search rules) (search rules) (search rules)
