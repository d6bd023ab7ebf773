use Rattle.why_report.proofs.Counting.{hits_add_up}
use Rattle.why_report.proofs.laws.hits_add_up.Goals as goal

pub returns : goal.returns
returns c = λ decl acts one. hits_add_up decl acts (c.deciders_rise.ensures decl one.rise) one.each one.few
