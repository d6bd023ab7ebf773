use Rattle.graph_compile.proofs.Touches.{no-copy-spared}
use Rattle.graph_compile.proofs.laws.no_copy_is_spared.Goals as goal

pub returns : goal.returns
returns c = no-copy-spared
