use Rattle.std.proofs.Common.{rules}
use Rattle.policy_lint.proofs.Steps.{rules_more}
use Rattle.policy_lint.proofs.versions.all_rules.Goals as goal

pub functions-preserved : goal.functions-preserved
functions-preserved c = rules_more c.args.functions.now c.functions.place c.index-functions-place.result c.index-functions-place.result c.functions.rules c.keep_firewall.new.rules c.functions.invariant (search rules) (search rules) (search rules)
