use Rattle.burst_law.proofs.ListedNotes.{listed_settles}
use Rattle.burst_law.proofs.laws.notes_are_settled_as_listed.Goals as goal

pub returns : goal.returns
returns g c = listed_settles
