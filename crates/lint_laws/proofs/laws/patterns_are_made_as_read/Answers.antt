use Rattle.lint_laws.proofs.PatternLines.{pattern_made}
use Rattle.lint_laws.proofs.laws.patterns_are_made_as_read.Goals as goal

pub returns : goal.returns
returns c = λ decl s accepted one h. pattern_made decl s one accepted h
