use Rattle.lint_laws.proofs.EntryLines.{entry_read, exit_read}
use Rattle.lint_laws.proofs.laws.ends_are_made_as_read.Goals as goal

pub returns-clause-entry : goal.returns-clause-entry
returns-clause-entry c = λ decl is accepted. entry_read decl is accepted

pub returns-clause-exit : goal.returns-clause-exit
returns-clause-exit c = λ decl is accepted. exit_read decl is accepted
