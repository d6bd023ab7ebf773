use Rattle.std.proofs.Common.{◌≡◌, ◌+◌, ◌<◌, ◌^◌, length}
use Rattle.policy_text.specs.Lines.{lines_from}
use Rattle.policy_text.proofs.line.Lines.next.Given as goal

-- only blank lines were taken so far
abbrev pub invariant-lines : goal.invariant-lines
invariant-lines l = (lines_from l.self.number l.self.rest.now ≡ lines_from l.fn.self.number l.fn.self.rest.now) × (l.self.number + length l.self.rest.now < 2 ^ 31)

abbrev pub decreases-lines : goal.decreases-lines
decreases-lines l = length l.self.rest.now
