use Rattle.burst_law.proofs.NotedBursts.{burst_settles, ends_same}
use Rattle.burst_law.proofs.laws.notes_are_settled_behind_bursts.Goals as goal

pub returns : goal.returns
returns g c = record {
  ends = λ b notes functions packets law by_notes. ends_same b notes functions packets
      (record {
        walk = c.notes_are_settled_behind.ensures.fields;
        count = c.notes_are_settled_behind.ensures.count;
        graph = c.branches_note_as_the_walk.ensures;
        keeps = c.quiet_functions_keep_to_profiles.ensures.keeps;
        still = c.quiet_functions_keep_to_profiles.ensures.still;
      }) law by_notes;
  functions = λ b notes graph functions packets law by_notes lawful full. burst_settles b notes graph functions packets
      (record {
        branch_length = c.profiles_stay.ensures.branch_length;
        stage_length = c.profiles_stay.ensures.stage_length;
        profiles = c.profiles_stay.ensures.graph;
        chain = c.graph_is_chain.ensures;
        fields = c.fields_stay.ensures.stage;
        dropped_in = c.stage_reached.ensures.stage;
        dropped_behind = c.stage_reached.ensures.graph;
      })
      (record {
        walk = c.notes_are_settled_behind.ensures.fields;
        count = c.notes_are_settled_behind.ensures.count;
        graph = c.branches_note_as_the_walk.ensures;
        keeps = c.quiet_functions_keep_to_profiles.ensures.keeps;
        still = c.quiet_functions_keep_to_profiles.ensures.still;
      })
      law by_notes lawful full;
}
