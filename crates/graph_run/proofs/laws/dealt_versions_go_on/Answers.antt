use Rattle.graph_run.proofs.Branching.{dealt_is, dealt_carried}
use Rattle.graph_run.proofs.laws.dealt_versions_go_on.Goals as goal

pub returns-clause-same : goal.returns-clause-same
returns-clause-same c = λ whole touch. dealt_is whole touch

pub returns-clause-carried : goal.returns-clause-carried
returns-clause-carried c = λ chain whole touch first goes. dealt_carried chain whole touch first c.written_is_made.ensures.dealt goes
