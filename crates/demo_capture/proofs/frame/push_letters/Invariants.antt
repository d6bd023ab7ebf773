use Rattle.std.proofs.Common.{◌≡◌, ◌-◌, ◌++◌}
use Rattle.demo_capture.specs.Draws.{letters}
use Rattle.demo_capture.proofs.frame.push_letters.Given as goal

-- the letters so far
abbrev pub invariant-letters : goal.invariant-letters
invariant-letters l = l.bytes.items ≡ l.fn.bytes.items ++ letters l.draws l.from (l.place - l.from)
