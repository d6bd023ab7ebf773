use Rattle.nf_mark.proofs.Decided.{rule_tags, none_tags}
use Rattle.nf_mark.proofs.laws.deciding_rule_tags.Goals as goal

pub returns-clause-rule : goal.returns-clause-rule
returns-clause-rule c = λ f shown place is. rule_tags f shown place is

pub returns-clause-none : goal.returns-clause-none
returns-clause-none c = λ f shown is. none_tags f shown is
