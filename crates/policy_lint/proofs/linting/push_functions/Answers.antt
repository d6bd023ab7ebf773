use Rattle.std.proofs.Common.{rules}
use Rattle.policy_lint.proofs.Steps.{goes_on}
use Rattle.policy_lint.proofs.linting.push_functions.Goals as goal

pub functions-preserved : goal.functions-preserved
functions-preserved c = goes_on _ c.args.functions.now c.args.found.now c.functions.place c.functions.found c.push_function.new.found c.index-functions-place.result c.index-functions-place.result c.functions.invariant (search rules) (search rules) (search rules)
