use Rattle.first_sight.proofs.Noting.{found, order}
use Rattle.first_sight.proofs.laws.noted_is_found.Goals as goal

pub returns-clause-found : goal.returns-clause-found
returns-clause-found g c = λ seen key asked value. found g.K.PartialEq.eq g.met.K.Eq.laws seen key asked value

pub returns-clause-order : goal.returns-clause-order
returns-clause-order g c = λ seen key value. order g.K.PartialEq.eq seen key value
