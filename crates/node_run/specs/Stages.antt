-- For proofs: a stage's functions as plain data.
use Rattle.stage_nodes.specs.Streams.{PlainStage}
use Rattle.node_run.specs.declared.stage.StageWork.{StageWork}

abbrev pub plain_stage : {F : Type 0} → StageWork F → PlainStage F
plain_stage s = record { parts = s.parts; branches = s.branches.items }
