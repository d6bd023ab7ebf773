use Rattle.burst_law.proofs.PlacedNotes.{packet_placed}
use Rattle.burst_law.proofs.laws.notes_are_settled_by_position.Goals as goal

pub returns : goal.returns
returns g c = λ b notes fixed graph functions values law by_notes lawful full. packet_placed b notes fixed graph functions values
    (record {
      branch_length = c.profiles_stay.ensures.branch_length;
      stage_length = c.profiles_stay.ensures.stage_length;
      profiles = c.profiles_stay.ensures.graph;
      chain = c.graph_is_chain.ensures;
      fields = c.fields_stay.ensures.stage;
      dropped_in = c.stage_reached.ensures.stage;
      dropped_behind = c.stage_reached.ensures.graph;
    })
    (record {
      walk = c.notes_are_settled_behind.ensures.fields;
      count = c.notes_are_settled_behind.ensures.count;
      graph = c.branches_note_as_the_walk.ensures;
      keeps = c.quiet_functions_keep_to_profiles.ensures.keeps;
      still = c.quiet_functions_keep_to_profiles.ensures.still;
    })
    law by_notes lawful full
