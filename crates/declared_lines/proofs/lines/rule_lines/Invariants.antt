use Rattle.std.proofs.Common.{◌≡◌, map, filter, take}
use Rattle.declared_lines.specs.DeclaredLines.{is_rule}
use Rattle.declared_lines.proofs.lines.rule_lines.Given as goal

abbrev pub invariant-settings : goal.invariant-settings
invariant-settings l = l.lines ≡ map (λ s. s.line) (filter is_rule (take l.setting-index l.setting-items))
