-- For proofs: the notes of a burst, as the branches of a graph list them.
use Rattle.std.specs.Prelude.{List, [], ◌∷◌, zip}
use Rattle.action_profile.specs.declared.parts.Touch.{Touch}
use Rattle.chain_walk.specs.Notes.{Notes}
use Rattle.chain_walk.specs.Step.{Behaviour}
use Rattle.graph_compile.specs.declared.graph.Branch.{Branch}
use Rattle.graph_compile.specs.declared.graph.Stage.{Stage}
use Rattle.burst_law.specs.Bursts.{Message, stage_burst}
use Rattle.burst_law.specs.Noting.{OwnNote, rows_listed, stream_notes}

-- those of each branch of a stage
unfoldable pub stage_listed : {F N : Type 0} → Behaviour F → Notes F N → List (Branch × Touch) → List (List F) → List Message → List (List (OwnNote N))
stage_listed b notes [] own ms = []
stage_listed b notes (x ∷ posts) [] ms = []
stage_listed b notes (x ∷ posts) (fs ∷ own) ms = rows_listed 0 (stream_notes b notes x fs ms) ∷ stage_listed b notes posts own ms

-- stage by stage
unfoldable pub graph_listed : {F N : Type 0} → Behaviour F → Notes F N → List Stage → List (List (List F)) → List Message → List (List (List (OwnNote N)))
graph_listed b notes [] own ms = []
graph_listed b notes (s ∷ stages) [] ms = []
graph_listed b notes (s ∷ stages) (o ∷ own) ms =
    stage_listed b notes (zip s.branches s.parts.touches) o ms ∷ graph_listed b notes stages own (stage_burst b s o ms).gives
