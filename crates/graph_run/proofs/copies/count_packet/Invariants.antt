use Rattle.std.proofs.Common.{◌≡◌}
use Rattle.packet_fields.specs.Writing.{all_fields}
use Rattle.packet_version.proofs.DealtByField.{RaisesBefore}
use Rattle.graph_run.proofs.Counted.{most_of}
use Rattle.graph_run.proofs.copies.count_packet.Given as goal

abbrev pub invariant-loop-field : goal.invariant-loop-field
invariant-loop-field l = record {
  fields : l.field-items ≡ all_fields;
  counted : RaisesBefore (most_of l.fn.stages l.frame l.fn.fate) l.field-index l.fn.tally l.tally;
}
