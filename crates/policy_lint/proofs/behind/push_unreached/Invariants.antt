use Rattle.policy_lint.proofs.Steps.{NoneYet}
use Rattle.policy_lint.proofs.behind.push_unreached.Given as goal

abbrev pub invariant-order : goal.invariant-order
invariant-order l = NoneYet l.functions l.order l.fn.found l.at l.found
