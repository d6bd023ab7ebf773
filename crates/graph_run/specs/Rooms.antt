-- For proofs: room for the tags that the functions of a chain may still add.
use Rattle.std.specs.Prelude.{ℕ, ◌+◌, ◌*◌, ◌-◌, ◌≤◌, List, length, drop, count_by, IfSome}
use Rattle.packet_fields.specs.declared.field.Field.TheVariants.{Tag}
use Rattle.action_profile.specs.declared.rights.Profile.{Profile}
use Rattle.packet_version.specs.Parts.{Parts}

-- the number of functions that add a tag, from the one at this position on; positions count from 1
abbrev pub adders_from : List Profile → ℕ → ℕ
adders_from chain position = count_by (λ p. p.adds) (drop (position - 1) chain)

-- the tags have room for one more for each function, from this position on, that adds one
abbrev pub HasRoomFrom : List Profile → ℕ → Parts → Type 0
HasRoomFrom chain position parts = IfSome (parts Tag) (λ tags. length tags.bytes + 4 * adders_from chain position ≤ tags.room)
