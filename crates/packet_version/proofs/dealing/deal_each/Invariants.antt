use Rattle.std.proofs.Common.{◌≡◌, map, length}
use Rattle.packet_fields.specs.Writing.{all_fields}
use Rattle.packet_version.specs.Parts.{as_map}
use Rattle.packet_version.specs.Dealing.{copies_due}
use Rattle.packet_version.specs.Handing.{touches_in}
use Rattle.packet_version.proofs.DealtByField.{first_own, first_kept, RaisesBefore}
use Rattle.packet_version.proofs.dealing.deal_each.Given as goal

abbrev pub invariant-loop-field : goal.invariant-loop-field
invariant-loop-field l = record {
  fields : l.fields ≡ all_fields;
  ten : length l.held.parts ≡ 10;
  frame : l.held.frame ≡ l.initial.held.frame;
  kept : as_map l.held.parts ≡ first_kept l.field-index (touches_in l.initial.versions) (as_map l.initial.held.parts);
  given : l.versions ≡ map (first_own l.field-index (as_map l.initial.held.parts)) l.initial.versions;
  counted : RaisesBefore (λ g. copies_due (touches_in l.initial.versions) g (as_map l.initial.held.parts g)) l.field-index l.initial.tally l.tally;
}
