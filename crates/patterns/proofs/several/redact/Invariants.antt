use Rattle.std.proofs.Common.{◌≡◌, take}
use Rattle.patterns.specs.Overwriting.{redacted}
use Rattle.patterns.proofs.several.redact.Given as goal

abbrev pub invariant-patterns : goal.invariant-patterns
invariant-patterns l = l.payload ≡ redacted (take l.pattern-index l.patterns) l.fn.payload
