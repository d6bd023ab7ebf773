use Rattle.nf_mark.proofs.Decided.{rule_marks, none_marks}
use Rattle.nf_mark.proofs.laws.deciding_rule_marks.Goals as goal

pub returns-clause-rule : goal.returns-clause-rule
returns-clause-rule c = λ f shown place is. rule_marks f shown place is

pub returns-clause-none : goal.returns-clause-none
returns-clause-none c = λ f shown is. none_marks f shown is
