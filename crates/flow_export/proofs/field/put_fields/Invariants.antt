use Rattle.std.proofs.Common.{◌≡◌, ◌+◌, ◌++◌, length, take}
use Rattle.flow_export.specs.Layouts.{spelled}
use Rattle.flow_export.proofs.field.put_fields.Given as goal

-- the fields so far
abbrev pub invariant-fields : goal.invariant-fields
invariant-fields l = (l.end ≡ l.at + length (spelled (take l.field-index l.fields))) × (take l.end l.bytes ≡ take l.at l.fn.bytes ++ spelled (take l.field-index l.fields))
