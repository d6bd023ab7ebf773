-- For proofs: the groups of an IPv6 address while they are read, as one number.
use Rattle.std.specs.Prelude.{ℕ, ◌+◌, ◌*◌, ◌^◌, ◌<◌, ◌≤◌, List, length, if◌then◌else◌, nat_lt, nat_le, Option, Some, None}
use Rattle.std.specs.Option.{option_and_then}
use Rattle.policy_text.specs.declared.value6.Groups.{Groups}
use Rattle.policy_text.specs.Addresses6.{group_of, number_of_groups}

-- at most eight groups, and 16 bits for each
pub record IsNarrow (read : Groups) : Type 0 where
  pub few : read.count ≤ 8
  pub narrow : read.value < 2 ^ (16 * read.count)

-- one more group in the lowest bits, if there is room for it
abbrev pub with_group : Groups → ℕ → Option Groups
with_group read group = if nat_lt read.count 8 then Some (record { value = read.value * 65536 + group; count = read.count + 1 }) else None

abbrev pub with_part : Groups → List ℕ → Option Groups
with_part read part = option_and_then (with_group read) (group_of part)

-- groups as one number, if there are at most eight
abbrev pub packed : List ℕ → Option Groups
packed groups = if nat_le (length groups) 8 then Some (record { value = number_of_groups groups; count = length groups }) else None
