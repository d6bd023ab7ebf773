use Rattle.std.proofs.Common.{◌≡◌, take}
use Rattle.policy_lint.specs.Versions.{all_rules}
use Rattle.policy_lint.proofs.versions.all_rules.Given as goal

-- those of the functions so far
abbrev pub invariant-functions : goal.invariant-functions
invariant-functions l = l.rules ≡ all_rules (take l.place l.functions)
