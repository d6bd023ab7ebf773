use Rattle.std.proofs.Common.{length}
use Rattle.policy_text.specs.Lines.{lines_from}
use Rattle.policy_text.proofs.Remaining.{Reads}
use Rattle.policy_text.proofs.parsing.read_utf8.Given as goal

-- the chains so far and the lines that remain decide
abbrev pub invariant-lines : goal.invariant-lines
invariant-lines l = Reads l.text l.draft l.lines.number l.lines.rest.now

abbrev pub decreases-lines : goal.decreases-lines
decreases-lines l = length (lines_from l.lines.number l.lines.rest.now)
