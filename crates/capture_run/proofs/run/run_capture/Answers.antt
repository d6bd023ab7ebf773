use Rattle.std.proofs.Common.{[], subst}
use Rattle.nfp_outside.specs.declared.slot.Slot.TheVariants.{Capture}
use Rattle.capture_run.specs.Running.{RunBreaks, RunsAll}
use Rattle.capture_items.specs.Slots.{Breaks, Puts}
use Rattle.capture_items.specs.Putting.{capture_is_not_report}
use Rattle.capture_report.specs.Telling.{told_text}
use Rattle.capture_run.proofs.Capturing.{breaks_at_records, breaks_at_summary, breaks_at_title, ended_so, started, writes_all}
use Rattle.capture_run.proofs.Draining.{still_drained}
use Rattle.capture_run.proofs.HandingOn.{handed_on}
use Rattle.capture_run.proofs.run.run_capture.Goals as goal

pub returns-in_err-put_text-clause-err : goal.returns-in_err-put_text-clause-err
returns-in_err-put_text-clause-err g c = handed_on c.from_residual.result c.in_err-put_text.field-0.0 _ c.from_residual.ensures.1 (breaks_at_title _ _ _ _ _ _ _ c.in_err-put_text.ensures.err)

pub returns-in_err-passage-clause-err : goal.returns-in_err-passage-clause-err
returns-in_err-passage-clause-err g c = handed_on c.from_residual-in_err-passage.result c.in_err-passage.field-0.0 _ c.from_residual-in_err-passage.ensures.1
    (breaks_at_records g.W.Sink.spelled c.args.service c.args.unit c.args.sink _ (g.D.Desk.slots c.args.desk.now) (g.D.Desk.slots c.put_text.new.desk) (g.D.Desk.slots c.run_records.new.desk) _ c.in_ok-put_text.ensures.ok
    (subst (λ v. RunBreaks g.W.Sink.spelled (started c.args.service c.args.unit c.args.sink) (g.S.Source.left c.args.source v) (g.D.Desk.slots c.put_text.new.desk) (g.D.Desk.slots c.run_records.new.desk) c.in_err-passage.field-0.0)
    (c.put_text.ensures.others Capture capture_is_not_report) c.in_err-passage.ensures.err))

pub returns-in_err-put_summary-clause-err : goal.returns-in_err-put_summary-clause-err
returns-in_err-put_summary-clause-err g c = handed_on c.from_residual-in_err-put_summary.result c.in_err-put_summary.field-0.0 _ c.from_residual-in_err-put_summary.ensures.1
    (breaks_at_summary g.W.Sink.spelled c.args.service c.args.unit c.args.sink (c.in_ok-passage.passage, c.in_ok-passage.fault) _ (g.D.Desk.slots c.args.desk.now) (g.D.Desk.slots c.put_text.new.desk) (g.D.Desk.slots c.run_records.new.desk) (g.D.Desk.slots c.put_summary.new.desk) c.in_err-put_summary.field-0.0
    c.requires.opening c.in_ok-put_text.ensures.ok
    (subst (λ v. RunsAll g.W.Sink.spelled (started c.args.service c.args.unit c.args.sink) (g.S.Source.left c.args.source v) (g.D.Desk.slots c.put_text.new.desk) (g.D.Desk.slots c.run_records.new.desk) (c.in_ok-passage.passage, c.in_ok-passage.fault))
    (c.put_text.ensures.others Capture capture_is_not_report) c.in_ok-passage.ensures.ok)
    (subst (λ l. Breaks [] (told_text l (ended_so (c.in_ok-passage.passage, c.in_ok-passage.fault))) (g.D.Desk.slots c.run_records.new.desk) (g.D.Desk.slots c.put_summary.new.desk) c.in_err-put_summary.field-0.0)
    c.as_slice.ensures c.in_err-put_summary.ensures.err))

pub returns-clause-ok : goal.returns-clause-ok
returns-clause-ok g c =
    writes_all g.W.Sink.spelled c.args.service c.args.unit c.args.sink (c.in_ok-passage.passage, c.in_ok-passage.fault) _ (g.D.Desk.slots c.args.desk.now) (g.D.Desk.slots c.put_text.new.desk) (g.D.Desk.slots c.run_records.new.desk) (g.D.Desk.slots c.put_summary.new.desk)
    c.requires.opening c.in_ok-put_text.ensures.ok
    (subst (λ v. RunsAll g.W.Sink.spelled (started c.args.service c.args.unit c.args.sink) (g.S.Source.left c.args.source v) (g.D.Desk.slots c.put_text.new.desk) (g.D.Desk.slots c.run_records.new.desk) (c.in_ok-passage.passage, c.in_ok-passage.fault))
    (c.put_text.ensures.others Capture capture_is_not_report) c.in_ok-passage.ensures.ok)
    (subst (λ l. Puts [] (told_text l (ended_so (c.in_ok-passage.passage, c.in_ok-passage.fault))) (g.D.Desk.slots c.run_records.new.desk) (g.D.Desk.slots c.put_summary.new.desk))
    c.as_slice.ensures c.in_ok-put_summary.ensures.ok)

pub returns-clause-drained : goal.returns-clause-drained
returns-clause-drained g c = still_drained g.S.Source.is_drained c.in_ok-passage.fault _ _ (c.put_summary.ensures.others Capture capture_is_not_report) c.in_ok-passage.ensures.drained
