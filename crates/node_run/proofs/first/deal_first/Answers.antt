use Rattle.std.proofs.Common.{subst}
use Rattle.node_run.specs.Firsts.{IsFirst}
use Rattle.node_run.proofs.Running.{dealt_first}
use Rattle.node_run.proofs.first.deal_first.Goals as goal

pub returns-in-Due : goal.returns-in-Due
returns-in-Due g c = λ copies first. dealt_first g.S.Supply.comes copies c.in-Due.dealer _ _ (subst (IsFirst g.S.Supply.comes copies) c.in-Due.is first) c.run_dealer-tally.ensures.counted
