use Rattle.std.proofs.Common.{◌≡◌, length}
use Rattle.std.specs.Prelude.{◌==◌}
use Rattle.graph_text.specs.Standing.{leads}
use Rattle.graph_text.proofs.standing.leads_in.Given as goal

-- the rest decides
abbrev pub invariant-rest : goal.invariant-rest
invariant-rest l = leads (λ x. x == l.first) (λ x. x == l.second) l.rest ≡ leads (λ x. x == l.first) (λ x. x == l.second) l.positions

abbrev pub decreases-rest : goal.decreases-rest
decreases-rest l = length l.rest
