use Rattle.std.proofs.Common.{◌≡◌, ◌==◌, take, false}
use Rattle.std.specs.List.{list_any}
use Rattle.policy_text.specs.declared.policy.FunctionDecl.{FunctionDecl}
use Rattle.declared_lines.specs.DeclaredLines.{number_of}
use Rattle.declared_lines.specs.LinesOf.{lines_of}
use Rattle.why_report.proofs.uses.is_among.Given as goal

-- none of the roles so far is that of the line
abbrev pub invariant-roles : goal.invariant-roles
invariant-roles l = (decl : FunctionDecl) → l.lines ≡ lines_of decl → list_any (λ role. number_of decl role == l.line) (take l.role-index l.deciding) ≡ false
