use Rattle.nf_translate.proofs.OneVersion.{declared_alike, keeps_settings, gets_all}
use Rattle.nf_translate.proofs.laws.backends_are_of_one_version.Goals as goal

pub returns-clause-declared : goal.returns-clause-declared
returns-clause-declared c = λ decl none. declared_alike decl none

pub returns-clause-kept : goal.returns-clause-kept
returns-clause-kept c = λ fixed b v. keeps_settings b _ _

pub returns-clause-written : goal.returns-clause-written
returns-clause-written c = λ fixed b v flow fits of. gets_all fixed.proto b v flow fits of
