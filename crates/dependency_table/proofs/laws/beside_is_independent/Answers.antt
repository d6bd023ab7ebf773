use Rattle.dependency_table.proofs.ActionsOfProfile.{unread, stateless, first_in_parts, second_in_parts}
use Rattle.dependency_table.proofs.laws.beside_is_independent.Goals as goal

pub returns-clause-unread : goal.returns-clause-unread
returns-clause-unread c = unread

pub returns-clause-stateless : goal.returns-clause-stateless
returns-clause-stateless c = stateless

pub returns-clause-first_in_parts : goal.returns-clause-first_in_parts
returns-clause-first_in_parts c = first_in_parts

pub returns-clause-second_in_parts : goal.returns-clause-second_in_parts
returns-clause-second_in_parts c = second_in_parts
