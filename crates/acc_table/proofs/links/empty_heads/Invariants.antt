use Rattle.std.proofs.Common.{◌≡◌, replicate}
use Rattle.acc_table.specs.Links.{none}
use Rattle.acc_table.proofs.links.empty_heads.Given as goal

-- as many empty buckets as turns so far
abbrev pub invariant-loop-i : goal.invariant-loop-i
invariant-loop-i l = l.heads.items ≡ replicate l._i none
