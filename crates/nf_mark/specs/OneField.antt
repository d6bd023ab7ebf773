-- Believed: a value that is written into one field.
use Rattle.std.specs.Prelude.{ℕ, List, ◌==◌, if◌then◌else◌, Option, None}
use Rattle.packet_fields.specs.Fields.{number_of}
use Rattle.packet_fields.specs.declared.field.Field.{Field}
use Rattle.chain_walk.specs.Shown.{Values}

-- these bytes, if there are some, are written into this field, and nothing else is written
abbrev pub only : Field → Option (List ℕ) → Values
only f bytes g = if number_of f == number_of g then bytes else None
