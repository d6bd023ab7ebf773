use Rattle.std.proofs.Common.{◌≡◌, length}
use Rattle.graph_text.specs.Standing.{is_in, leads}
use Rattle.graph_text.proofs.standing.stage_leads.Given as goal

-- the rest decides
abbrev pub invariant-rest : goal.invariant-rest
invariant-rest l = leads (is_in l.first) (is_in l.second) l.rest ≡ leads (is_in l.first) (is_in l.second) l.stages

abbrev pub decreases-rest : goal.decreases-rest
decreases-rest l = length l.rest
