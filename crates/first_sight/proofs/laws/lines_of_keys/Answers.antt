use Rattle.first_sight.proofs.Telling.{lines_of_keys, rows_of_keys}
use Rattle.first_sight.proofs.laws.lines_of_keys.Goals as goal

pub returns-clause-lines : goal.returns-clause-lines
returns-clause-lines g c = λ line seen. lines_of_keys line seen

pub returns-clause-rows : goal.returns-clause-rows
returns-clause-rows g c = λ line seen. rows_of_keys line seen
