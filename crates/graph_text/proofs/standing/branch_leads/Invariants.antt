use Rattle.std.proofs.Common.{◌≡◌, length}
use Rattle.graph_compile.specs.Positions.{holds}
use Rattle.graph_text.specs.Standing.{leads}
use Rattle.graph_text.proofs.standing.branch_leads.Given as goal

-- the rest decides
abbrev pub invariant-rest : goal.invariant-rest
invariant-rest l = leads (holds l.first) (holds l.second) l.rest ≡ leads (holds l.first) (holds l.second) l.branches

abbrev pub decreases-rest : goal.decreases-rest
decreases-rest l = length l.rest
