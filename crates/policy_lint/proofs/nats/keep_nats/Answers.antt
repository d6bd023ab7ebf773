use Rattle.std.proofs.Common.{rules}
use Rattle.policy_lint.proofs.Steps.{keeps_more}
use Rattle.policy_lint.proofs.nats.keep_nats.Goals as goal

pub functions-preserved : goal.functions-preserved
functions-preserved c = keeps_more _ c.args.nats.now c.args.functions.now c.functions.place c.functions.nats c.keep_nat.new.nats c.index-functions-place.result c.index-functions-place.result c.functions.invariant (search rules) (search rules) (search rules)
