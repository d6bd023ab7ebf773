use Rattle.capture_items.specs.declared.fault.RunFault.TheVariants.{OutOfMemory}
use Rattle.capture_items.specs.Putting.{no_memory}
use Rattle.capture_run.proofs.HandingOn.{handed_on}
use Rattle.capture_run.proofs.summary.tell_row.Goals as goal

pub returns-in_err-state_line-clause-err : goal.returns-in_err-state_line-clause-err
returns-in_err-state_line-clause-err g c = handed_on c.from_residual.result OutOfMemory _ c.from_residual.ensures.1 (no_memory _ _ (g.D.Desk.slots c.args.desk.now))
