use Rattle.burst_law.proofs.Bursting.{burst_walks, burst_profiles}
use Rattle.burst_law.proofs.laws.burst_is_chain.Goals as goal

pub returns : goal.returns
returns g c = record {
  chain = λ b graph functions packets law calm lawful full. burst_walks b graph functions packets
      (record {
        branch_length = c.profiles_stay.ensures.branch_length;
        stage_length = c.profiles_stay.ensures.stage_length;
        profiles = c.profiles_stay.ensures.graph;
        chain = c.graph_is_chain.ensures;
        fields = c.fields_stay.ensures.stage;
        dropped_in = c.stage_reached.ensures.stage;
        dropped_behind = c.stage_reached.ensures.graph;
      }) law calm lawful full;
  profiles = λ b graph functions packets law calm lawful full. burst_profiles b graph functions packets
      (record {
        branch_length = c.profiles_stay.ensures.branch_length;
        stage_length = c.profiles_stay.ensures.stage_length;
        profiles = c.profiles_stay.ensures.graph;
        chain = c.graph_is_chain.ensures;
        fields = c.fields_stay.ensures.stage;
        dropped_in = c.stage_reached.ensures.stage;
        dropped_behind = c.stage_reached.ensures.graph;
      }) law calm lawful full;
}
