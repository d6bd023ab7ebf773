-- Believed: the lines of a kind that has none.
use Rattle.std.specs.Prelude.{[], None}
use Rattle.function_lines.specs.KindLines.{KindLines, never_clash}
use Rattle.nf_mark.specs.declared.no_lines.NoLine.{NoLine}

-- no line is a line of the kind, and none is required
abbrev pub no_lines : KindLines NoLine
no_lines = record { line_of = λ words. None; required = []; clashes = never_clash }
