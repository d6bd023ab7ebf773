use Rattle.std.proofs.Common.{rules}
use Rattle.policy_lint.proofs.Steps.{goes_on}
use Rattle.policy_lint.proofs.patterns.push_patterns.Goals as goal

pub settings-preserved : goal.settings-preserved
settings-preserved c = goes_on _ c.as_slice-settings.result.now c.args.found.now c.settings.place c.settings.found c.push_pattern.new.found c.index-settings-place.result c.index-settings-place.result c.settings.invariant (search rules) (search rules) (search rules)
