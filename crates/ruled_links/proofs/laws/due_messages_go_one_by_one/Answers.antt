use Rattle.ruled_links.proofs.StillDue.{first_fits, first_left, others_left}
use Rattle.ruled_links.proofs.laws.due_messages_go_one_by_one.Goals as goal

pub returns : goal.returns
returns g c = record { fits = first_fits g.T.LinkFit.fits; first = first_left g.T.LinkFit.fits; others = others_left }
