use Rattle.std.proofs.Common.{◌≡◌, ◌++◌, map, filter, take}
use Rattle.declared_lines.specs.DeclaredLines.{can_decide}
use Rattle.declared_lines.proofs.lines.deciders.Given as goal

abbrev pub invariant-settings : goal.invariant-settings
invariant-settings l = l.lines ≡ l.initial.lines ++ map (λ s. s.line) (filter (can_decide l.kind) (take l.setting-index l.setting-items))
