use Rattle.std.proofs.Common.{ap, Err}
use Rattle.std.proofs.lemmas.Result.{IfOk-weaker, IfErr-weaker}
use Rattle.nfp_outside.specs.declared.slot.Slot.TheVariants.{Capture}
use Rattle.capture_items.specs.declared.fault.RunFault.TheVariants.{OutOfMemory}
use Rattle.capture_items.specs.Putting.{capture_is_not_out, capture_is_not_report}
use Rattle.capture_run.proofs.Draining.{drained_at_end, drained_at_stop}
use Rattle.capture_run.proofs.HandingOn.{handed_on}
use Rattle.capture_run.proofs.Running.{no_run}
use Rattle.capture_run.proofs.Turns.{at_begins, at_goes_on, at_end, at_stop, at_end_break, at_stop_break, at_take_break}
use Rattle.capture_run.proofs.records.run_records.Goals as goal

pub records-init : goal.records-init
records-init g c = at_begins _ _ _ _ _ _ _ c.args.burst _ _ c.requires.new c.in_ok-cutter.ensures c.new-beside.ensures.items c.requires.fresh c.requires.open

pub records-preserved : goal.records-preserved
records-preserved g c = at_goes_on c.bursts_are_counted_in_a_row.ensures.row _ _ _ _ _ _ _ _ _ _ _ _ _ _ _ c.in-Ok-Some.given _ (g.D.Desk.slots c.records.desk) (g.D.Desk.slots c.next.new.desk) _ c.records.invariant
    (rw c.in-Ok-Some.field-0-is at c.in-Ok-Some.ensures.given) c.in-Ok-Some.ensures.stays_open c.next.ensures.later c.next.ensures.name c.next.ensures.others c.in-Ok.ensures.ok c.take.ensures.others

pub returns-in-Err-take-clause-err : goal.returns-in-Err-take-clause-err
returns-in-Err-take-clause-err g c = at_take_break _ _ _ _ _ _ _ _ _ _ _ _ c.in-Ok-Some.given _ _ (g.D.Desk.slots c.records.desk) (g.D.Desk.slots c.next.new.desk) _ c.records.invariant
    (rw c.in-Ok-Some.field-0-is at c.in-Ok-Some.ensures.given) c.next.ensures.later c.next.ensures.others c.in-Err-take.ensures.err

pub returns-in-Ok-None-clause-ok : goal.returns-in-Ok-None-clause-ok
returns-in-Ok-None-clause-ok g c = IfOk-weaker c.end.result _ _
    (λ run ends. at_end c.bursts_are_counted_in_a_row.ensures.row _ _ _ _ _ _ _ _ _ _ run _ (g.D.Desk.slots c.records.desk) (g.D.Desk.slots c.next.new.desk) _ c.records.invariant (rw c.in-Ok-None.field-0-is at c.in-Ok-None.ensures.end) c.next.ensures.later c.next.ensures.others ends)
    c.end.ensures.ok

pub returns-in-Ok-None-clause-err : goal.returns-in-Ok-None-clause-err
returns-in-Ok-None-clause-err g c = IfErr-weaker c.end.result _ _
    (λ fault broken. at_end_break _ _ _ _ _ _ _ _ _ _ fault _ (g.D.Desk.slots c.records.desk) (g.D.Desk.slots c.next.new.desk) _ c.records.invariant c.next.ensures.later c.next.ensures.others broken)
    c.end.ensures.err

pub returns-in-Err-clause-ok : goal.returns-in-Err-clause-ok
returns-in-Err-clause-ok g c = IfOk-weaker c.stop.result _ _
    (λ run ends. at_stop c.bursts_are_counted_in_a_row.ensures.row _ _ _ _ _ _ _ _ _ _ c.in-Err.refusal run _ (g.D.Desk.slots c.records.desk) (g.D.Desk.slots c.next.new.desk) _ c.records.invariant (λ fault is. c.in-Err.ensures.refused fault (ap Err is)) c.next.ensures.later c.next.ensures.others ends)
    c.stop.ensures.ok

pub returns-in-Err-clause-err : goal.returns-in-Err-clause-err
returns-in-Err-clause-err g c = IfErr-weaker c.stop.result _ _
    (λ fault broken. at_stop_break _ _ _ _ _ _ _ _ _ _ c.in-Err.refusal fault _ (g.D.Desk.slots c.records.desk) (g.D.Desk.slots c.next.new.desk) _ c.records.invariant (λ is. c.in-Err.ensures.read_fault (ap Err is)) c.next.ensures.later c.next.ensures.others broken)
    c.stop.ensures.err

pub returns-in_err-cutter-clause-err : goal.returns-in_err-cutter-clause-err
returns-in_err-cutter-clause-err g c = handed_on c.from_residual.result OutOfMemory _ c.from_residual.ensures.1 (no_run _ c.args.passage _ (g.D.Desk.slots c.args.desk.now))

pub returns-in-Ok-None-clause-drained : goal.returns-in-Ok-None-clause-drained
returns-in-Ok-None-clause-drained g c = drained_at_end g.S.Source.is_drained c.end.result (g.D.Desk.slots c.next.new.desk Capture) _ (c.end.ensures.others Capture capture_is_not_out capture_is_not_report) (rw c.in-Ok-None.field-0-is at c.in-Ok-None.ensures.drained)

pub returns-in-Err-clause-drained : goal.returns-in-Err-clause-drained
returns-in-Err-clause-drained g c = drained_at_stop _ _ _ c.in-Err.refusal _ _ c.stop.result _ c.stop.ensures.ok
