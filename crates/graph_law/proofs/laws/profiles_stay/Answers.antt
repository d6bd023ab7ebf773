use Rattle.graph_law.proofs.KeptProfiles.{in_turn_keeps, length_in_turn, branched_keeps, length_branched, flow_keeps, length_flow}
use Rattle.graph_law.proofs.laws.profiles_stay.Goals as goal

pub returns : goal.returns
returns g c = record {
  branch = in_turn_keeps;
  branch_length = length_in_turn;
  stage = branched_keeps;
  stage_length = length_branched;
  graph = flow_keeps;
  graph_length = length_flow;
}
