-- The laws on which streams of nodes rest, as they are cited.
use Rattle.std.proofs.Common.{◌≡◌, ◌≤◌, ℕ, suc, List, length}
use Rattle.std.specs.Prelude.{Some, slice_get}
use Rattle.packet_fields.specs.declared.field.Field.{Field}
use Rattle.action_profile.specs.Modes.{modes_of}
use Rattle.action_profile.specs.declared.parts.Touch.{Touch}
use Rattle.action_profile.specs.declared.rights.Profile.{Profile}
use Rattle.chain_walk.specs.Counting.{IsQuiet}
use Rattle.chain_walk.specs.Laws.{KeepsProfile}
use Rattle.chain_walk.specs.Step.{Behaviour}
use Rattle.graph_compile.specs.Lawful.{IsLawfulStage}
use Rattle.graph_compile.specs.Owners.{HasOwners}
use Rattle.graph_compile.specs.declared.graph.Branch.{Branch}
use Rattle.graph_compile.specs.declared.graph.Stage.{Stage}
use Rattle.packet_version.specs.Splitting.{PlainApart, packet_parts}
use Rattle.packet_version.specs.Dealing.{copies_due}
use Rattle.graph_run.specs.Staging.{Holds}
use Rattle.graph_run.specs.Stages.{end_of, stage_copies}
use Rattle.stream_law.proofs.Turned.{GoesOnBehind, GoesOnLater}
use Rattle.stream_law.proofs.Taken.{DealtGoesOn, DealtIsSame}
use Rattle.stream_law.proofs.Rows.{MergingLaws}

abbrev pub StageHasOwners : Type 0
StageHasOwners = (chain : List Profile) (first : ℕ) (stage : Stage) → IsLawfulStage chain first stage → HasOwners chain first stage

abbrev pub BranchHolds : Type 0
BranchHolds = (chain : List Profile) (first j : ℕ) (stage : Stage) (branch : Branch) (touch : Touch) →
    IsLawfulStage chain first stage → 1 ≤ first → end_of first stage ≤ suc (length chain) → slice_get stage.branches j ≡ Some branch → slice_get stage.parts.touches j ≡ Some touch → Holds chain touch first (end_of first stage) branch.positions

abbrev pub ModesAreDue : Type 0
ModesAreDue = (chain : List Profile) (first : ℕ) (stage : Stage) → IsLawfulStage chain first stage → stage.parts.modes ≡ modes_of stage.parts.touches

abbrev pub CopiesAreDue : Type 0
CopiesAreDue = (chain : List Profile) (first : ℕ) (stage : Stage) (whole : PlainApart) (f : Field) → IsLawfulStage chain first stage → copies_due stage.parts.touches f (packet_parts whole f) ≡ stage_copies stage whole f

-- all of them
pub record AreLaws {F : Type 0} (b : Behaviour F) : Type 0 where
  pub keeps : KeepsProfile b
  pub calm : IsQuiet b
  pub behind : GoesOnBehind F
  pub later : GoesOnLater
  pub same : DealtIsSame
  pub dealt : DealtGoesOn
  pub owners : StageHasOwners
  pub holds : BranchHolds
  pub modes : ModesAreDue
  pub copies : CopiesAreDue
  pub merging : MergingLaws
