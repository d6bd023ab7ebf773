use Rattle.std.proofs.Common.{◌≡◌, ◌+◌, ◌<◌, ◌^◌, ◌++◌, length}
use Rattle.policy_text.specs.Lines.{lines_from, lines_of}
use Rattle.graph_text.proofs.forms.lines_of.Given as goal

-- the lines so far and those of the rest
abbrev pub invariant-lines : goal.invariant-lines
invariant-lines l = record {
  all : l.found.items ++ lines_from l.lines.number l.lines.rest.now ≡ lines_of l.text;
  room : l.lines.number + length l.lines.rest.now < 2 ^ 31;
}

abbrev pub decreases-lines : goal.decreases-lines
decreases-lines l = length (lines_from l.lines.number l.lines.rest.now)
