use Rattle.merge_ops.proofs.Untouched.{dealt_kept, dealt_same}
use Rattle.merge_ops.proofs.laws.unwritten_is_same.Goals as goal

pub returns-clause-kept : goal.returns-clause-kept
returns-clause-kept c = λ whole touches. dealt_kept whole touches

pub returns-clause-same : goal.returns-clause-same
returns-clause-same c = λ whole touches fits. dealt_same whole touches fits
