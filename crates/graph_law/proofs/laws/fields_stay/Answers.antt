use Rattle.graph_law.proofs.Present.{stage_there, flow_there}
use Rattle.graph_law.proofs.Walking.{walk_there}
use Rattle.graph_law.proofs.laws.fields_stay.Goals as goal

pub returns : goal.returns
returns g c = record { chain = walk_there; stage = stage_there; graph = flow_there }
