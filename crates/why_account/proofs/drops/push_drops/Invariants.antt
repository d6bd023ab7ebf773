use Rattle.std.proofs.Common.{◌≡◌, ◌++◌, map, take}
use Rattle.std.specs.List.{flat_map}
use Rattle.declared_lines.specs.DeclaredLines.{number_of}
use Rattle.declared_lines.specs.LinesOf.{lines_of}
use Rattle.policy_text.specs.declared.policy.FunctionDecl.{FunctionDecl}
use Rattle.why_report.specs.Report.{drop_text}
use Rattle.why_account.proofs.drops.push_drops.Given as goal

-- the lines so far
abbrev pub invariant-deciding : goal.invariant-deciding
invariant-deciding l = (decl : FunctionDecl) → l.lines ≡ lines_of decl → l.text.items ≡ l.fn.text.items ++ flat_map (drop_text l.number l.name l.function) (map (number_of decl) (take l.role-index l.deciding))
