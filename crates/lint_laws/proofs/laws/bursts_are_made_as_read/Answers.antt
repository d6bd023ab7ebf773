use Rattle.lint_laws.proofs.LimiterLines.{burst_read}
use Rattle.lint_laws.proofs.laws.bursts_are_made_as_read.Goals as goal

pub returns : goal.returns
returns c = λ decl accepted. burst_read decl accepted
