use Rattle.nfp_outside.specs.declared.slot.Slot.TheVariants.{Out}
use Rattle.nfp_outside.specs.Adding.{prefix_none}
use Rattle.flow_export.specs.Exports.{export_bytes}
use Rattle.flow_export.proofs.Sending.{same_cause, no_cause}
use Rattle.flow_export.proofs.packets.export.Goals as goal

pub returns-in_default-clause-err : goal.returns-in_default-clause-err
returns-in_default-clause-err g c = prefix_none (export_bytes c.args.span.now c.args.lines.now) (g.D.Desk.slots c.args.desk.now Out)

pub returns-in-Ok-send-clause-cause : goal.returns-in-Ok-send-clause-cause
returns-in-Ok-send-clause-cause g c = no_cause (g.D.Desk.slots c.args.desk.now Out) (g.D.Desk.slots c.send.new.desk Out) c.div_ceil-packets.result c.in-Ok-send.ensures.cause.later

pub returns-clause-cause : goal.returns-clause-cause
returns-clause-cause g c = same_cause (g.D.Desk.slots c.args.desk.now Out) (g.D.Desk.slots c.send.new.desk Out) c.in-Err.fault c.in-Err.ensures.cause
