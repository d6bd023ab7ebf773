use Rattle.std.proofs.Common.{◌∙◌, ap, sym}
use Rattle.std.specs.Prelude.{not}
use Rattle.std.proofs.Math.Bool.{or-false}
use Rattle.functions_tests.proofs.lines.SizeLineFunctionLine.lacks_one.Goals as goal

pub returns : goal.returns
returns c = ap not c.is_there.ensures ∙ sym (or-false _)
