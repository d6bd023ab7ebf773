use Rattle.std.specs.Option.{option_to_list}
use Rattle.policy_lint.specs.Behind.{told_behind}
use Rattle.policy_lint.proofs.Steps.{AreGathered}
use Rattle.policy_lint.proofs.behind.push_limited.Given as goal

abbrev pub invariant-order : goal.invariant-order
invariant-order l = AreGathered (λ before place. option_to_list (told_behind l.functions before place)) l.order l.fn.found l.at l.found
