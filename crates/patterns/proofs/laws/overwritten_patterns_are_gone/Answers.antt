use Rattle.patterns.proofs.Overwriting.{nothing_taken}
use Rattle.patterns.specs.Lengths.{same_length}
use Rattle.patterns.proofs.Becoming.{gone}
use Rattle.patterns.proofs.laws.overwritten_patterns_are_gone.Goals as goal

pub returns-clause-length : goal.returns-clause-length
returns-clause-length c = λ patterns payload. same_length patterns payload

pub returns-clause-stays : goal.returns-clause-stays
returns-clause-stays c = λ pattern payload none. nothing_taken pattern payload none

pub returns-clause-gone : goal.returns-clause-gone
returns-clause-gone c = λ pattern payload some clean. gone pattern payload some clean
