use Rattle.std.proofs.Common.{◌≡◌, drop, fold, filter}
use Rattle.action_profile.specs.FieldSets.{all_fields, fields, with_field}
use Rattle.graph_compile.specs.Parts.{branch_reads, branch_writes}
use Rattle.graph_compile.proofs.touching.touch_of.Given as goal

-- the fields so far, and those of the rest
abbrev pub invariant-fields : goal.invariant-fields
invariant-fields l = record {
  reads : fold with_field l.reads (filter (branch_reads l.profiles l.branch) (drop l.field-index l.field-items)) ≡ fields (filter (branch_reads l.profiles l.branch) all_fields);
  writes : fold with_field l.writes (filter (branch_writes l.profiles l.branch) (drop l.field-index l.field-items)) ≡ fields (filter (branch_writes l.profiles l.branch) all_fields);
}
