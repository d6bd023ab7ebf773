use Rattle.std.proofs.Common.{rules}
use Rattle.policy_lint.proofs.Steps.{goes_on}
use Rattle.policy_lint.proofs.asking.push_covered.Goals as goal

pub things-preserved : goal.things-preserved
things-preserved g c = goes_on _ c.args.things.now c.args.found.now c.things.place c.things.found c.push_one.new.found c.index-things-place.result c.index-things-place.result c.things.invariant (search rules) (search rules) (search rules)
