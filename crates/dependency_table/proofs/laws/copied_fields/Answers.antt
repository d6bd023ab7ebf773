use Rattle.dependency_table.proofs.Copying.{copies_are}
use Rattle.dependency_table.proofs.laws.copied_fields.Goals as goal

pub returns : goal.returns
returns c = copies_are
