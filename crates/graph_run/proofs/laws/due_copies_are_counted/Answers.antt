use Rattle.graph_run.proofs.Staged.{due_is, stage_modes}
use Rattle.graph_run.proofs.laws.due_copies_are_counted.Goals as goal

pub returns-clause-modes : goal.returns-clause-modes
returns-clause-modes c = λ chain first stage lawful. stage_modes chain first stage lawful

pub returns-clause-copies : goal.returns-clause-copies
returns-clause-copies c = λ chain first stage whole f lawful. due_is stage whole f (stage_modes chain first stage lawful)
