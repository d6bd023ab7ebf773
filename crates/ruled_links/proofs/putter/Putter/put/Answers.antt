use Rattle.std.proofs.Common.{rules}
use Rattle.ruled_links.specs.Ends.{known}
use Rattle.ruled_links.proofs.Moves.{puts, holds_some}
use Rattle.ruled_links.proofs.putter.Putter.put.Goals as goal

pub push_as-requires-clause-rule : goal.push_as-requires-clause-rule
push_as-requires-clause-rule g c =
    let i = c.self.invariant in
    (puts g.T.LinkFit.fits _ _ (known c.self.inside.pass) _ i.opened i.puts (search rules) (search rules), holds_some g.T.LinkFit.fits _ (known c.self.inside.pass) i.opened i.puts)
