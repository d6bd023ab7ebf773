use Rattle.dependency_table.proofs.Copying.{forbidden_forbids, first_has, second_has}
use Rattle.dependency_table.proofs.laws.forbidden_has_a_cause.Goals as goal

pub returns-clause-of_first : goal.returns-clause-of_first
returns-clause-of_first c = first_has

pub returns-clause-of_second : goal.returns-clause-of_second
returns-clause-of_second c = second_has

pub returns-clause-forbids : goal.returns-clause-forbids
returns-clause-forbids c = forbidden_forbids
