use Rattle.ruled_links.specs.Ends.{known}
use Rattle.ruled_links.proofs.Moves.{takes}
use Rattle.ruled_links.proofs.taker.Taker.try_take.Goals as goal

pub pop_as-requires-clause-rule : goal.pop_as-requires-clause-rule
pop_as-requires-clause-rule g c = (takes g.T.LinkFit.fits _ (known c.self.inside.pass) c.self.invariant.opened c.self.invariant.takes, λ _ _ _ _. tt)
