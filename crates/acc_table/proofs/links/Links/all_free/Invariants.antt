use Rattle.acc_table.proofs.Beginning.{Linked}
use Rattle.acc_table.proofs.links.Links.all_free.Given as goal

-- the places so far are linked
abbrev pub invariant-loop-place : goal.invariant-loop-place
invariant-loop-place l = Linked l.nexts.items l.free l.place
