use Rattle.nf_translate.proofs.DecidingLines.{writes_as}
use Rattle.nf_translate.proofs.laws.a_balancer_sends_to_the_backend_whose_line_decides.Goals as goal

pub returns : goal.returns
returns c = record { writes = λ fixed b v some. writes_as b _ _ some }
