use Rattle.nf_mark.proofs.Decided.{rule_leads, none_leads}
use Rattle.nf_mark.proofs.laws.deciding_rule_leads_on.Goals as goal

pub returns-clause-rule : goal.returns-clause-rule
returns-clause-rule c = λ n shown place is. rule_leads n shown place is

pub returns-clause-none : goal.returns-clause-none
returns-clause-none c = λ n shown f is. none_leads n shown is f
