-- For proofs: a lawful stage seen position by position: which branch owns it.
use Rattle.std.specs.Prelude.{◌≡◌, ◌≢◌, ◌+◌, ◌==◌, ◌<◌, ◌≤◌, ℕ, true, List, length, Some, filter, slice_get, IsTrue}
use Rattle.std.specs.List.{position_or_len, range_with_len}
use Rattle.packet_fields.specs.declared.field.Field.{Field}
use Rattle.action_profile.specs.FieldSets.{has}
use Rattle.action_profile.specs.Profiles.{reads_of, writes_of}
use Rattle.action_profile.specs.declared.parts.Touch.{Touch}
use Rattle.action_profile.specs.declared.rights.Profile.{Profile}
use Rattle.dependency_table.specs.Table.{pair_of, is_allowed}
use Rattle.graph_compile.specs.declared.graph.Branch.{Branch}
use Rattle.graph_compile.specs.declared.graph.Stage.{Stage}
use Rattle.graph_compile.specs.Lawful.{size}
use Rattle.graph_compile.specs.Parts.{profile_at}
use Rattle.graph_compile.specs.Positions.{holds}

-- the branch that owns a position: the first that holds it
abbrev pub owner : List Branch → ℕ → ℕ
owner branches position = position_or_len (holds position) branches

-- the stage that begins at a position, and what its branches own
pub record HasOwners (chain : List Profile) (first : ℕ) (stage : Stage) : Type 0 where
  -- each position of the stage is owned by one of its branches
  pub owned : (q : ℕ) → first ≤ q → q < first + size stage.branches → owner stage.branches q < length stage.branches
  -- a branch has those that it owns, in order
  pub listed : (j : ℕ) (b : Branch) → slice_get stage.branches j ≡ Some b → b.positions ≡ filter (λ q. owner stage.branches q == j) (range_with_len first (size stage.branches))
  -- functions of different branches may run side by side
  pub beside : (q r : ℕ) (x y : Profile) → first ≤ q → q < r → r < first + size stage.branches → owner stage.branches q ≢ owner stage.branches r →
      profile_at chain q ≡ Some x → profile_at chain r ≡ Some y → IsTrue (is_allowed (pair_of x y))
  -- a branch gets what its functions read and write
  pub touches : length stage.parts.touches ≡ length stage.branches
  pub reads : (q : ℕ) (x : Profile) (t : Touch) (f : Field) → first ≤ q → q < first + size stage.branches →
      profile_at chain q ≡ Some x → slice_get stage.parts.touches (owner stage.branches q) ≡ Some t → IsTrue (reads_of x f) → has t.reads f ≡ true
  pub writes : (q : ℕ) (x : Profile) (t : Touch) (f : Field) → first ≤ q → q < first + size stage.branches →
      profile_at chain q ≡ Some x → slice_get stage.parts.touches (owner stage.branches q) ≡ Some t → IsTrue (writes_of x f) → has t.writes f ≡ true
