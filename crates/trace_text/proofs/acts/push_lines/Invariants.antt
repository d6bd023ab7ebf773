use Rattle.std.proofs.Common.{◌≡◌, ◌++◌, take, map}
use Rattle.declared_lines.specs.DeclaredLines.{number_of}
use Rattle.trace_text.specs.Trace.{lines_text}
use Rattle.trace_text.proofs.acts.push_lines.Given as goal

-- the lines so far
abbrev pub invariant-deciding : goal.invariant-deciding
invariant-deciding l = l.text.items ≡ l.fn.text.items ++ lines_text (map (number_of l.decl) (take l.line-index l.deciding))
