use Rattle.function_lines.proofs.Refusing.{named, is_least, none_refused}
use Rattle.function_lines.proofs.laws.least_refused_line.Goals as goal

pub returns-clause-named : goal.returns-clause-named
returns-clause-named g c = λ lines decl line e. named lines decl line e

pub returns-clause-least : goal.returns-clause-least
returns-clause-least g c = λ lines decl line other e refused. is_least lines decl line other e refused

pub returns-clause-none : goal.returns-clause-none
returns-clause-none g c = λ lines decl line e refused. none_refused lines decl line e refused
