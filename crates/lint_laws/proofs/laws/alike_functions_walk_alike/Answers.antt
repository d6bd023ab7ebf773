use Rattle.lint_laws.proofs.Twins.{same_fates}
use Rattle.lint_laws.proofs.laws.alike_functions_walk_alike.Goals as goal

pub returns : goal.returns
returns c = λ front back f g packets alike. same_fates f g alike front back packets
