use Rattle.lint_laws.proofs.MadeAsRead.{nat_made}
use Rattle.lint_laws.proofs.laws.nats_are_made_as_read.Goals as goal

pub returns : goal.returns
returns c = λ decl is accepted. nat_made decl is accepted
