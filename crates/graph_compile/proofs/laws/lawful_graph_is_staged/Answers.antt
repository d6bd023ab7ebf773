use Rattle.graph_compile.proofs.FiveFacts.{lawful-from_staged, staged-from_lawful}
use Rattle.graph_compile.proofs.laws.lawful_graph_is_staged.Goals as goal

pub returns-clause-staged : goal.returns-clause-staged
returns-clause-staged c = staged-from_lawful

pub returns-clause-lawful : goal.returns-clause-lawful
returns-clause-lawful c = lawful-from_staged
