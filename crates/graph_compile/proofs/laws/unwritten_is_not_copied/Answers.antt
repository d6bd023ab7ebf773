use Rattle.graph_compile.proofs.Touches.{unwritten-uncopied}
use Rattle.graph_compile.proofs.laws.unwritten_is_not_copied.Goals as goal

pub returns : goal.returns
returns c = unwritten-uncopied
