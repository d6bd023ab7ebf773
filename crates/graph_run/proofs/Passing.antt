-- The result of a stage, by the result of the merge.
use Rattle.std.proofs.Common.{◌≡◌, ◌∙◌, ◌<◌, ◌+◌, ℕ, true, List, map, length, get_or, sym, ap, subst}
use Rattle.chain_walk.specs.Shown.{Values}
use Rattle.chain_walk.specs.Step.{Behaviour}
use Rattle.chain_walk.specs.Laws.{KeepsProfile}
use Rattle.chain_walk.specs.Walk.{walk}
use Rattle.chain_walk.specs.FieldWalk.{End.Gone}
use Rattle.chain_walk.specs.declared.fixed.Fixed.{Fixed}
use Rattle.chain_walk.specs.declared.walk.Fate.TheVariants as fates
use Rattle.graph_compile.specs.Positions.{stands}
use Rattle.graph_compile.specs.declared.graph.Graph.{Graph}
use Rattle.graph_compile.specs.declared.graph.Stage.{Stage}
use Rattle.graph_law.specs.Flow.{staged}
use Rattle.packet_version.specs.Splitting.{PlainApart}
use Rattle.merge_ops.specs.declared.merging.Merged.{Merged}
use Rattle.merge_ops.specs.declared.merging.Merged.TheVariants as ends
use Rattle.graph_run.specs.Carrying.{values_in, as_end}
use Rattle.graph_run.specs.Counting.{copies_of, RaisesAll, RaisesUpTo}
use Rattle.graph_run.specs.Running.{IsRunning}
use Rattle.graph_run.specs.Stages.{end_of, IsStageReady, LeavesStage, stage_copies}
use Rattle.graph_run.proofs.WayThroughStages.{IsFlowing, Rising, stage_ready}
use Rattle.graph_run.proofs.Onward.{StageKeepsFields, StageKeepsProfiles, GoneLater, IsWalk, Ends, stage_passed, stage_drops, stage_fails}

-- the result of running a stage
pub record Gave {F : Type 0} (b : Behaviour F) (stage : Stage) (whole : PlainApart) (now after : List F) (merged : Merged) (new newer : List ℕ) : Type 0 where
  pub functions : after ≡ (staged b whole.fixed stage (values_in whole) now).functions
  pub end : as_end merged ≡ (staged b whole.fixed stage (values_in whole) now).end
  pub leaves : (at : ℕ) → IsStageReady (map b.profile now) at stage whole → LeavesStage (map b.profile now) (end_of at stage) whole merged
  pub counted : RaisesAll (stage_copies stage whole) new newer

-- the next stage is ready
pub next_ready : {F : Type 0} (b : Behaviour F) (graph : Graph) (time : ℕ) (frame : List ℕ) (first now : List F) (i : ℕ) (whole : PlainApart) (old new : List ℕ) (s : Stage) → Rising → IsRunning b first graph →
    IsFlowing b graph time frame first now i whole old new → i < length graph.stages → s ≡ get_or graph.stages i s → (at : ℕ) × IsStageReady (map b.profile now) at s whole
next_ready b graph time frame first now i whole old new s rising running way inside is = (
  way.way.at,
  subst (λ ps. IsStageReady ps way.way.at s whole) (sym way.profiles)
      (subst (λ (x : Stage). IsStageReady (map b.profile first) way.way.at x whole) (sym is) (stage_ready b graph time frame first now i whole old new s rising running way inside)),
)

pub passed : {F : Type 0} (b : Behaviour F) (graph : Graph) (time : ℕ) (frame : List ℕ) (first now after : List F) (i : ℕ) (whole next : PlainApart) (old new newer : List ℕ) (s : Stage) (merged : Merged) → Rising → StageKeepsFields F → StageKeepsProfiles F → KeepsProfile b →
    IsRunning b first graph → IsFlowing b graph time frame first now i whole old new → i < length graph.stages → s ≡ get_or graph.stages i s → Gave b s whole now after merged new newer → merged ≡ ends.Whole next →
    IsFlowing b graph time frame first after (i + 1) next old newer
passed b graph time frame first now after i whole next old new newer s merged rising fields profiles keeps running way inside is gave goes =
    let here = subst (λ (x : Stage). Gave b x whole now after merged new newer) is gave in
    stage_passed b graph time frame first now after i whole next old new newer s rising fields profiles keeps running way inside here.functions (ap as_end (sym goes) ∙ here.end)
    (λ at ready. subst (LeavesStage (map b.profile now) (end_of at (get_or graph.stages i s)) whole) goes (here.leaves at ready)) here.counted

pub dropped : {F : Type 0} (b : Behaviour F) (graph : Graph) (time : ℕ) (frame : List ℕ) (first now after : List F) (i p : ℕ) (whole : PlainApart) (old new newer : List ℕ) (s : Stage) (merged : Merged) → GoneLater F →
    ((b : Behaviour F) (fixed : Fixed) (stage : Stage) (functions : List F) (values : Values) (position : ℕ) → (staged b fixed stage values functions).end ≡ Gone position → stands position stage ≡ true) →
    IsRunning b first graph → IsFlowing b graph time frame first now i whole old new → IsWalk b graph time frame first → i < length graph.stages → s ≡ get_or graph.stages i s → Gave b s whole now after merged new newer → merged ≡ ends.Gone p →
    Ends b graph time frame first after (fates.Gone p) old newer
dropped b graph time frame first now after i p whole old new newer s merged gone here_law running way walks inside is gave goes =
    let here = subst (λ (x : Stage). Gave b x whole now after merged new newer) is gave in
    stage_drops b graph time frame first now after i p whole old new newer s gone here_law running way walks inside here.functions (ap as_end (sym goes) ∙ here.end) here.counted

-- no packet of a run is short
pub never_short : {F : Type 0} (b : Behaviour F) (stage : Stage) (whole : PlainApart) (now after : List F) (merged : Merged) (new newer : List ℕ) → Gave b stage whole now after merged new newer → ((at : ℕ) × IsStageReady (map b.profile now) at stage whole) → merged ≡ ends.Short → ⊥
never_short b stage whole now after merged new newer gave ready is = subst (LeavesStage (map b.profile now) (end_of ready.0 stage) whole) is (gave.leaves ready.0 ready.1)

pub failed : {F : Type 0} (b : Behaviour F) (graph : Graph) (time : ℕ) (frame : List ℕ) (first now : List F) (i : ℕ) (whole : PlainApart) (old new newer : List ℕ) (s : Stage) → GoneLater F → IsRunning b first graph → IsFlowing b graph time frame first now i whole old new →
    IsWalk b graph time frame first → i < length graph.stages → s ≡ get_or graph.stages i s → RaisesUpTo (stage_copies s whole) new newer → RaisesUpTo (copies_of graph.stages frame (walk b time 1 first frame).fate) old newer
failed b graph time frame first now i whole old new newer s gone running way walks inside is within =
    stage_fails b graph time frame first now i whole old new newer s gone running way walks inside (subst (λ (x : Stage). RaisesUpTo (stage_copies x whole) new newer) is within)
