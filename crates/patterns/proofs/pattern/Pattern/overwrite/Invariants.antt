use Rattle.std.proofs.Common.{◌≡◌, ◌≤◌, ◌-◌, ◌++◌, length, take, drop}
use Rattle.patterns.specs.Overwriting.{overwritten}
use Rattle.patterns.proofs.pattern.Pattern.overwrite.Given as goal

abbrev pub invariant-occurrences : goal.invariant-occurrences
invariant-occurrences l = record {
  fits : l.from ≤ length l.payload;
  same_length : length l.payload ≡ length l.fn.payload;
  same : take l.from l.payload ++ overwritten l.self (drop l.from l.payload) ≡ overwritten l.self l.fn.payload;
}

abbrev pub decreases-occurrences : goal.decreases-occurrences
decreases-occurrences l = length l.payload - l.from
