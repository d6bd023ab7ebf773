use Rattle.why_report.proofs.Counting.{unmet, without_hits}
use Rattle.why_report.proofs.laws.no_hits_is_no_use.Goals as goal

pub returns : goal.returns
returns c = λ decl line acts. (unmet decl line acts, without_hits decl line acts)
