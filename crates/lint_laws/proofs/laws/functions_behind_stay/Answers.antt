use Rattle.lint_laws.proofs.Shut.{all_kept, all_gone}
use Rattle.lint_laws.proofs.laws.functions_behind_stay.Goals as goal

pub returns-clause-kept : goal.returns-clause-kept
returns-clause-kept c = λ front back f packets drops. all_kept f drops back front packets

pub returns-clause-gone : goal.returns-clause-gone
returns-clause-gone c = λ front back f packets drops. all_gone f drops back front packets
