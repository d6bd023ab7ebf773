use Rattle.lint_laws.proofs.MadeAsRead.{rules_made_as_read}
use Rattle.lint_laws.proofs.laws.rules_are_made_as_read.Goals as goal

pub returns : goal.returns
returns c = λ decl accepted. rules_made_as_read decl accepted
