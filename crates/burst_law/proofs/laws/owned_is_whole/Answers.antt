use Rattle.burst_law.proofs.Bursting.{branch_count, branch_each, owned_whole}
use Rattle.burst_law.proofs.laws.owned_is_whole.Goals as goal

pub returns : goal.returns
returns g c = record { count = branch_count; each = branch_each; whole = owned_whole }
