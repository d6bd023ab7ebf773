use Rattle.std.proofs.Common.{◌≡◌, ◌++◌, take, map}
use Rattle.policy_lint.specs.Behind.{told_unreached}
use Rattle.policy_lint.proofs.behind.push_behind.Given as goal

-- the places so far
abbrev pub invariant-places : goal.invariant-places
invariant-places l = l.found ≡ l.fn.found ++ map (told_unreached l.functions l.dropper) (take l.place-index l.places)
