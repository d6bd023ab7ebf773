use Rattle.std.proofs.Common.{rules}
use Rattle.policy_lint.proofs.Steps.{keeps_more}
use Rattle.policy_lint.proofs.rule_line.keep_rules.Goals as goal

pub settings-preserved : goal.settings-preserved
settings-preserved c = keeps_more _ c.args.rules.now c.as_slice-settings.result.now c.settings.place c.settings.rules c.keep.new.rules c.index-settings-place.result c.index-settings-place.result c.settings.invariant (search rules) (search rules) (search rules)
