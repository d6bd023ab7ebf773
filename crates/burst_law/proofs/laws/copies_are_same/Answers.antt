use Rattle.burst_law.proofs.Weighing.{copies_same}
use Rattle.burst_law.proofs.laws.copies_are_same.Goals as goal

pub returns : goal.returns
returns g c = λ b graph f functions packets law calm lawful full. copies_same b f graph functions packets
    (record {
      branch_length = c.profiles_stay.ensures.branch_length;
      stage_length = c.profiles_stay.ensures.stage_length;
      profiles = c.profiles_stay.ensures.graph;
      chain = c.graph_is_chain.ensures;
      fields = c.fields_stay.ensures.stage;
      dropped_in = c.stage_reached.ensures.stage;
      dropped_behind = c.stage_reached.ensures.graph;
    }) law calm lawful full
