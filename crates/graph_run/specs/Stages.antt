-- For proofs: what a stage needs of a packet, and what it leaves of it.
use Rattle.std.specs.Prelude.{◌≡◌, ◌≤◌, ◌<◌, ◌+◌, ℕ, suc, List, [], ◌∷◌, length, is_some, if◌then◌else◌}
use Rattle.packet_fields.specs.declared.field.Field.{Field}
use Rattle.action_profile.specs.Modes.{copies}
use Rattle.action_profile.specs.declared.parts.Touch.{Touch}
use Rattle.action_profile.specs.declared.rights.Profile.{Profile}
use Rattle.chain_walk.specs.Shown.{AreWellFormed}
use Rattle.graph_compile.specs.Lawful.{IsLawfulStage, size}
use Rattle.graph_compile.specs.declared.graph.Stage.{Stage}
use Rattle.packet_version.specs.Splitting.{PlainApart, packet_parts}
use Rattle.merge_ops.specs.declared.arrival.Arrival.{Arrival}
use Rattle.merge_ops.specs.declared.merging.Merged.{Merged}
use Rattle.merge_ops.specs.declared.merging.Merged.TheVariants.{Whole, Gone, Short}
use Rattle.graph_run.specs.Carrying.{values_in}
use Rattle.graph_run.specs.Rooms.{HasRoomFrom}
use Rattle.graph_run.specs.Staging.{IsCarriedBy}

-- the position after the last of a stage
abbrev pub end_of : ℕ → Stage → ℕ
end_of first stage = first + size stage.branches

-- A packet may go on from this position: its values are those of a frame, and its tags have room.
pub record GoesFrom (chain : List Profile) (position : ℕ) (whole : PlainApart) : Type 0 where
  pub formed : AreWellFormed (values_in whole)
  pub room : HasRoomFrom chain position (packet_parts whole)

-- A packet is ready for a stage, whose first function has this position.
pub record IsStageReady (chain : List Profile) (first : ℕ) (stage : Stage) (whole : PlainApart) : Type 0 where
  pub lawful : IsLawfulStage chain first stage
  pub position : 1 ≤ first
  pub within : end_of first stage ≤ suc (length chain)
  pub some : 0 < length stage.branches
  pub few : length stage.branches ≤ 64
  pub goes : GoesFrom chain first whole

-- After a stage a packet may go on, with its own rest and fixed values.
pub record IsBehind (chain : List Profile) (next : ℕ) (whole after : PlainApart) : Type 0 where
  pub rest : after.rest ≡ whole.rest
  pub fixed : after.fixed ≡ whole.fixed
  pub goes : GoesFrom chain next after

-- what leaves a stage: a packet that may go on, or a drop
abbrev pub LeavesStage : List Profile → ℕ → PlainApart → Merged → Type 0
LeavesStage chain next whole (Whole after) = IsBehind chain next whole after
LeavesStage chain next whole (Gone p) = Unit {0}
LeavesStage chain next whole Short = ⊥

-- the results of the branches with these touches, one from each
unfoldable pub AllCarried : List Profile → PlainApart → ℕ → List Touch → List Arrival → Type 0
AllCarried chain whole high [] [] = Unit {0}
AllCarried chain whole high (t ∷ touches) (a ∷ arrivals) = IsCarriedBy chain whole t high a × AllCarried chain whole high touches arrivals
AllCarried chain whole high touches arrivals = ⊥

-- the copies of a field that a stage makes of a packet, if it has the field
abbrev pub stage_copies : Stage → PlainApart → Field → ℕ
stage_copies stage whole f = if is_some (packet_parts whole f) then copies stage.parts f else 0
