use Rattle.patterns.proofs.Standing.{stands, occurs_within}
use Rattle.patterns.proofs.laws.a_pattern_occurs_where_it_stands.Goals as goal

pub returns-clause-stands : goal.returns-clause-stands
returns-clause-stands c = λ pattern payload h. stands pattern payload h

pub returns-clause-occurs : goal.returns-clause-occurs
returns-clause-occurs c = λ pattern before behind. occurs_within pattern before behind
