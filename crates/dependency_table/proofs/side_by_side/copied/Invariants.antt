use Rattle.std.proofs.Common.{◌≡◌, drop, fold, filter}
use Rattle.action_profile.specs.FieldSets.{with_field}
use Rattle.dependency_table.specs.Table.{is_copied, copied}
use Rattle.dependency_table.proofs.side_by_side.copied.Given as goal

-- the fields so far, and those of the rest
abbrev pub invariant-fields : goal.invariant-fields
invariant-fields l = fold with_field l.copied (filter (is_copied l.x l.y) (drop l.field-index l.field-items)) ≡ copied l.x l.y
