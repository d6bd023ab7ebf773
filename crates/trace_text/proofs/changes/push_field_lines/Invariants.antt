use Rattle.std.proofs.Common.{◌≡◌, ◌++◌, take}
use Rattle.std.specs.List.{flat_map}
use Rattle.packet_fields.specs.Fields.{value}
use Rattle.trace_text.specs.Values.{change_line}
use Rattle.trace_text.proofs.changes.push_field_lines.Given as goal

-- the fields so far
abbrev pub invariant-fields : goal.invariant-fields
invariant-fields l = l.text.items ≡ l.fn.text.items ++ flat_map (λ f. change_line f (value f l.before) (value f l.after)) (take l.field-index l.field-items)
