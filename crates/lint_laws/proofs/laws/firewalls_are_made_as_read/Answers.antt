use Rattle.lint_laws.proofs.MadeAsRead.{firewall_made}
use Rattle.lint_laws.proofs.laws.firewalls_are_made_as_read.Goals as goal

pub returns : goal.returns
returns c = λ decl is accepted. firewall_made decl is accepted
