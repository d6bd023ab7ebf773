use Rattle.std.proofs.Common.{ap}
use Rattle.ruled_links.proofs.Moves.{opens}
use Rattle.ruled_links.proofs.ends.link.Goals as goal

pub another-taking-requires-clause-rule : goal.another-taking-requires-clause-rule
another-taking-requires-clause-rule g c = opens g.T.LinkFit.fits _ _ g.D.LinkDue.due (ap (λ v. v.opened) c.in_ok-made.ensures.3)
