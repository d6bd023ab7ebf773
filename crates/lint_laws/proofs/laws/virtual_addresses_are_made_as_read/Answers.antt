use Rattle.lint_laws.proofs.BalancerLines.{virtual_read}
use Rattle.lint_laws.proofs.laws.virtual_addresses_are_made_as_read.Goals as goal

pub returns : goal.returns
returns c = λ decl is accepted. virtual_read decl is accepted
