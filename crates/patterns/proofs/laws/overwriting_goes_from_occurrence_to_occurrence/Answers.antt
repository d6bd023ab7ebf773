use Rattle.patterns.proofs.Becoming.{becomes, alone}
use Rattle.patterns.proofs.laws.overwriting_goes_from_occurrence_to_occurrence.Goals as goal

pub returns-clause-becomes : goal.returns-clause-becomes
returns-clause-becomes c = λ pattern payload some. becomes pattern payload some

pub returns-clause-alone : goal.returns-clause-alone
returns-clause-alone c = λ pattern payload after some h. alone pattern payload after some h
