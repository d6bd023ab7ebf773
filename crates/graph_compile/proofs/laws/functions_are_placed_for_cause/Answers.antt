use Rattle.graph_compile.proofs.Filling.{graph-joined, graph-caused}
use Rattle.graph_compile.proofs.laws.functions_are_placed_for_cause.Goals as goal

pub returns-clause-joined : goal.returns-clause-joined
returns-clause-joined c = graph-joined

pub returns-clause-closed : goal.returns-clause-closed
returns-clause-closed c = graph-caused
