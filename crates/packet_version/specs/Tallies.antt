-- Believed: counts of copies, field by field.
use Rattle.std.specs.Prelude.{ℕ, ◌+◌, ◌-◌, ◌^◌, min, max, List, slice_index}
use Rattle.packet_fields.specs.Fields.{number_of}
use Rattle.packet_fields.specs.declared.field.Field.{Field}

-- a count that rises stops at the end of its type, 2^64 - 1, and never falls
abbrev pub raised : ℕ → ℕ → ℕ
raised count by = max count (min (count + by) (2 ^ 64 - 1))

-- the count of a field in a list of ten
abbrev pub count_of : List ℕ → Field → ℕ
count_of counts f = slice_index counts (number_of f)
