use Rattle.graph_law.proofs.Dropping.{stage_gone, flow_gone}
use Rattle.graph_law.proofs.laws.stage_reached.Goals as goal

pub returns : goal.returns
returns g c = record { stage = stage_gone; graph = flow_gone }
