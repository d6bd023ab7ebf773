use Rattle.graph_compile.proofs.Following.{IsStaged-le}
use Rattle.graph_compile.proofs.laws.stages_rise.Goals as goal

pub returns : goal.returns
returns c = IsStaged-le
