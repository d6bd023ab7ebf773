use Rattle.graph_run.proofs.Owning.{branch_holds}
use Rattle.graph_run.proofs.laws.branches_hold_what_is_named.Goals as goal

pub returns : goal.returns
returns c = λ chain first j stage branch touch lawful pos within has is. branch_holds chain first stage j branch touch (c.lawful_stage_has_owners.ensures chain first stage lawful) has is pos within
