use Rattle.graph_law.proofs.FlowNotes.{length_notes}
use Rattle.graph_law.proofs.Settling.{walk_settles, packets_settle, noted_reached, noted_dropped}
use Rattle.graph_law.proofs.laws.notes_are_settled_behind.Goals as goal

pub returns : goal.returns
returns g c = record {
  fates = λ b notes functions packets law by_notes.
      (packets_settle b notes functions packets c.frames_walk_as_fields.ensures law (c.quiet_functions_keep_to_profiles.ensures.keeps b law) by_notes).ends;
  functions = λ b notes functions packets law by_notes.
      (packets_settle b notes functions packets c.frames_walk_as_fields.ensures law (c.quiet_functions_keep_to_profiles.ensures.keeps b law) by_notes).after;
  fields = λ b notes fixed position functions values by_notes. walk_settles b notes fixed position functions values by_notes;
  count = length_notes;
  reached = noted_reached;
  dropped = noted_dropped;
}
