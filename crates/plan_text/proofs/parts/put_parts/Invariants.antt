use Rattle.std.proofs.Common.{◌≡◌, ◌++◌, take}
use Rattle.std.specs.List.{flat_map}
use Rattle.action_profile.specs.FieldSets.{all_fields}
use Rattle.plan_text.specs.Plan.{part_text}
use Rattle.plan_text.proofs.parts.put_parts.Given as goal

-- the fields so far
abbrev pub invariant-fields : goal.invariant-fields
invariant-fields l = l.out.items ≡ l.fn.out.items ++ flat_map (part_text l.parts) (take l.field-index all_fields)
