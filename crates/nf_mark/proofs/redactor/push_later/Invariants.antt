use Rattle.std.proofs.Common.{◌≡◌, ◌++◌, drop}
use Rattle.nf_mark.specs.Redactors.{rules_from}
use Rattle.nf_mark.proofs.redactor.push_later.Given as goal

abbrev pub invariant-patterns : goal.invariant-patterns
invariant-patterns l = l.rules.items ++ rules_from l.place (drop l.place l.patterns) l.left ≡ l.fn.rules.items ++ rules_from l.fn.from (drop l.fn.from l.patterns) l.fn.left
