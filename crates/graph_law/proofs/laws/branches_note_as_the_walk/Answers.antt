use Rattle.std.proofs.Common.{map}
use Rattle.graph_law.proofs.FlowNotes.{graph_notes_fit}
use Rattle.graph_law.proofs.laws.branches_note_as_the_walk.Goals as goal

pub returns : goal.returns
returns g c = λ b notes fixed graph functions values law calm lawful full. graph_notes_fit b notes fixed graph functions values law calm
    (record {
      independent = record { unread = c.beside_is_independent.ensures.unread; stateless = c.beside_is_independent.ensures.stateless };
      owners = c.lawful_stage_has_owners.ensures;
      rises = c.stages_rise.ensures;
    })
    (c.lawful_graph_is_staged.ensures.staged graph (map b.profile functions) full lawful)
