use Rattle.function_lines.proofs.Gathering.{AreCompared}
use Rattle.function_lines.proofs.reading.least_clashing.Given as goal

abbrev pub invariant-settings : goal.invariant-settings
invariant-settings g l = AreCompared g.L.FunctionLine.kind_lines l.lines l.settings l.initial.least l.place l.least
