use Rattle.graph_compile.proofs.Handed.{handed-shared, handed-moved, handed-leased, handed-first}
use Rattle.graph_compile.proofs.laws.fields_are_handed_on_by_rule.Goals as goal

pub returns-clause-shared : goal.returns-clause-shared
returns-clause-shared c = handed-shared

pub returns-clause-moved : goal.returns-clause-moved
returns-clause-moved c = handed-moved

pub returns-clause-leased : goal.returns-clause-leased
returns-clause-leased c = handed-leased

pub returns-clause-first : goal.returns-clause-first
returns-clause-first c = handed-first
