use Rattle.std.proofs.Common.{rules}
use Rattle.ruled_links.specs.Ends.{known}
use Rattle.ruled_links.proofs.Moves.{joins, whole}
use Rattle.ruled_links.proofs.ends.finish.Goals as goal

pub absorb-requires-clause-rule : goal.absorb-requires-clause-rule
absorb-requires-clause-rule g c = joins g.T.LinkFit.fits _ (known c.putter.inside.pass) _ (known c.taker.inside.pass) c.putter.invariant.opened c.putter.invariant.puts c.taker.invariant.takes

pub learn_as-requires-clause-rule : goal.learn_as-requires-clause-rule
learn_as-requires-clause-rule g c = whole g.T.LinkFit.fits _ _ (search rules) (search rules) (search rules)
