use Rattle.std.specs.Option.{option_to_list}
use Rattle.policy_text.specs.declared.policy.Setting.{Setting}
use Rattle.policy_lint.specs.Patterns.{text_of}
use Rattle.policy_lint.specs.Walking.{told_redacted}
use Rattle.policy_lint.proofs.Steps.{AreGathered}
use Rattle.policy_lint.proofs.walking.push_redacted.Given as goal

abbrev pub invariant-settings : goal.invariant-settings
invariant-settings l = AreGathered (λ others (s : Setting). option_to_list (told_redacted l.chain l.before s.line (text_of l.kind s))) l.settings l.fn.found l.place l.found
