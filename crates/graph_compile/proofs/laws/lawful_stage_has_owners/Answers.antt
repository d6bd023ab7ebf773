use Rattle.graph_compile.proofs.Owning.{stage-owners}
use Rattle.graph_compile.proofs.laws.lawful_stage_has_owners.Goals as goal

pub returns : goal.returns
returns c = stage-owners
