use Rattle.std.specs.Option.{option_to_list}
use Rattle.policy_lint.specs.Gathering.{told_of}
use Rattle.policy_lint.proofs.Steps.{AreGathered}
use Rattle.policy_lint.proofs.asking.push_covered.Given as goal

abbrev pub invariant-things : goal.invariant-things
invariant-things g l = AreGathered (λ before t. option_to_list (told_of g.T.Asks.asking before t)) l.things l.fn.found l.place l.found
