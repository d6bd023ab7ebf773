use Rattle.merge_ops.proofs.Untouched.{dealt_from}
use Rattle.merge_ops.proofs.laws.dealt_are_arrivals.Goals as goal

pub returns : goal.returns
returns c = λ whole touches fits. dealt_from whole touches fits
