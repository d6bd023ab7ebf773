-- For proofs: windows of patterns, and what a table of them says about a payload. A word's bits are groups of patterns.
use Rattle.std.specs.Prelude.{◌≡◌, ℕ, ◌+◌, ◌*◌, ◌/◌, ◌%◌, ◌<◌, ◌≤◌, ◌⊎◌, List, [], length, get_or, true, bit_and, slice_index}
use Rattle.std.specs.Int.{bit_at}
use Rattle.patterns.specs.Occurrences.{occurs}
use Rattle.patterns.specs.Windows.{bytes_of, window_at}
use Rattle.patterns.specs.declared.width.Width.{Width}

-- the two words of a table in which a window is marked
unfoldable pub near_slot : ℕ → ℕ
near_slot window = window * 2654435761 / 1048576 % 4096

unfoldable pub far_slot : ℕ → ℕ
far_slot window = window * 2654435761 / 4294967296 % 4096

-- the groups that have a window, maybe with a few more
unfoldable pub groups_of : List ℕ → ℕ → ℕ
groups_of table window = bit_and (slice_index table (near_slot window)) (slice_index table (far_slot window))

-- What is marked in a table stays marked.
pub record Grows (old new : List ℕ) : Type 0 where
  pub stays : (slot group : ℕ) → bit_at (slice_index old slot) group ≡ 1 → bit_at (slice_index new slot) group ≡ 1

-- The windows at the first places of a pattern, as many as a stride, are marked for its group.
pub record HasWindows (width : Width) (stride : ℕ) (table pattern : List ℕ) (group : ℕ) : Type 0 where
  pub long : stride + bytes_of width ≤ length pattern + 1
  pub each : (offset : ℕ) → offset < stride → bit_at (groups_of table (window_at width pattern offset)) group ≡ 1

-- A pattern is known by its windows, or its group is always reported.
abbrev pub IsMarked : Width → ℕ → ℕ → List ℕ → List ℕ → ℕ → Type 0
IsMarked width stride short table pattern group = (bit_at short group ≡ 1) ⊎ HasWindows width stride table pattern group

-- The pattern at each place is known by its group.
pub record IsSieveOf (width : Width) (stride short : ℕ) (table : List ℕ) (patterns : List (List ℕ)) : Type 0 where
  pub each : (place : ℕ) → place < length patterns → IsMarked width stride short table (get_or patterns place []) (place % 64)

-- The groups that are always reported are among these, and so are those with a window at one of the strided places.
pub record Tells (width : Width) (stride short : ℕ) (table payload : List ℕ) (groups : ℕ) : Type 0 where
  pub always : (group : ℕ) → bit_at short group ≡ 1 → bit_at groups group ≡ 1
  pub seen : (turn group : ℕ) → turn * stride + bytes_of width ≤ length payload → bit_at (groups_of table (window_at width payload (turn * stride))) group ≡ 1 → bit_at groups group ≡ 1

-- The group of each pattern that occurs is among these.
pub record HasAll (patterns : List (List ℕ)) (payload : List ℕ) (groups : ℕ) : Type 0 where
  pub each : (place : ℕ) → place < length patterns → occurs (get_or patterns place []) payload ≡ true → bit_at groups (place % 64) ≡ 1
