use Rattle.std.proofs.Common.{◌+◌, ◌++◌, [], length}
use Rattle.capture_items.specs.Putting.{no_memory}
use Rattle.capture_items.specs.declared.fault.RunFault.TheVariants.{OutOfMemory}
use Rattle.plain_chains.specs.Plain.{way_next}
use Rattle.why_report.specs.Report.{drop_line}
use Rattle.why_run.specs.Telling.{RecordBreaks}
use Rattle.why_run.proofs.HandingOn.{handed_on}
use Rattle.why_run.proofs.records.tell_record.Goals as goal

pub returns-in_err-tell_packet-clause-err : goal.returns-in_err-tell_packet-clause-err
returns-in_err-tell_packet-clause-err g c =
    handed_on c.from_residual.result OutOfMemory
    (RecordBreaks c.args.unit c.args.packet.now c.args.telling.now c.args.text.now.items (g.D.Desk.slots c.args.desk.now) (g.D.Desk.slots c.args.desk.now)) c.from_residual.ensures.1
    (λ chains asked done told.
    let way = way_next c.args.telling.now.service c.args.unit c.args.packet.now in
    no_memory [] (c.args.text.now.items ++ drop_line chains (length done + 1) way.class way) (g.D.Desk.slots c.args.desk.now))
