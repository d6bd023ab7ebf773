use Rattle.graph_causes.proofs.Listing.{graph-placed}
use Rattle.graph_causes.proofs.Only.{only-caused}
use Rattle.graph_causes.proofs.laws.causes_determine_the_graph.Goals as goal

pub returns-clause-compiled : goal.returns-clause-compiled
returns-clause-compiled c = graph-placed

pub returns-clause-only : goal.returns-clause-only
returns-clause-only c = only-caused
