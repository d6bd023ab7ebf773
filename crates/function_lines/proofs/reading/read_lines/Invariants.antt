use Rattle.function_lines.proofs.Gathering.{AreRead}
use Rattle.function_lines.proofs.reading.read_lines.Given as goal

abbrev pub invariant-settings : goal.invariant-settings
invariant-settings g l = AreRead g.L.FunctionLine.kind_lines l.settings l.place l.lines l.least
