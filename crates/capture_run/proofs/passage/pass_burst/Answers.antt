use Rattle.std.proofs.Common.{◌≡◌, ◌+◌, ◌∙◌, [], length, ap, subst, sym, refl, arith}
use Rattle.std.specs.Prelude.{count_by}
use Rattle.std.proofs.lemmas.List.{length-map}
use Rattle.std.proofs.lemmas.List.Sums.{count_by-le-length}
use Rattle.capture_report.specs.BurstWalkProofs.{all_ended, records_of}
use Rattle.capture_run.specs.Passing.{packets_next}
use Rattle.capture_report.specs.Report.{is_gone}
use Rattle.capture_items.specs.Slots.{Puts, Breaks}
use Rattle.capture_items.specs.declared.fault.RunFault.TheVariants.{OutOfMemory}
use Rattle.capture_items.specs.Putting.{no_memory}
use Rattle.capture_run.proofs.BurstLines.{advances_held, breaks_records, ended_many, lines_held, made_lines, puts_records}
use Rattle.capture_run.proofs.Following.{each_fits}
use Rattle.capture_run.proofs.Passing.{burst_put, lines_refused}
use Rattle.capture_run.proofs.HandingOn.{handed_on}
use Rattle.capture_run.proofs.passage.pass_burst.Goals as goal

pub returns-in_err-lines-clause-err : goal.returns-in_err-lines-clause-err
returns-in_err-lines-clause-err g c = handed_on c.from_residual-in_err-lines.result OutOfMemory _ c.from_residual-in_err-lines.ensures.1 (no_memory _ _ (g.D.Desk.slots c.args.desk.now))

pub overflow_add-totals-3 : goal.overflow_add-totals-3
overflow_add-totals-3 g c =
    let gone = count_by-le-length is_gone (all_ended c.as_slice-items.result.now c.deref-2.result.now) in
    let few = ended_many c.args.passage c.args.burst.items c.as_slice-items.result.now c.in_ok-service.fates.items c.deref-2.result.now c.as_slice-items.ensures c.deref-2.ensures.value c.in_ok-service.ensures.fates in
    let many : length c.as_slice-items.result.now ≡ length c.args.burst.items = ap length c.as_slice-items.ensures in
    let room = c.requires.room in
    let within = c.requires.within in
    omega (arith, c.count_gone.ensures)

pub returns-in_err-put_emitted-clause-err : goal.returns-in_err-put_emitted-clause-err
returns-in_err-put_emitted-clause-err g c = handed_on c.from_residual-in_err-put_emitted.result c.in_err-put_emitted.field-0.0 _ c.from_residual-in_err-put_emitted.ensures.1
    (breaks_records g.W.Sink.spelled c.args.passage c.args.burst.items c.as_slice-items.result.now c.args.beside.now.items c.as_slice.result.now c.in_ok-service.fates.items _ _ _ c.requires.as_many c.in_ok-service.ensures.fates c.as_slice-items.ensures c.as_slice.ensures.value c.in_err-put_emitted.ensures.err)

pub returns-in_err-put_text-clause-err : goal.returns-in_err-put_text-clause-err
returns-in_err-put_text-clause-err g c = handed_on c.from_residual-in_err-put_text.result c.in_err-put_text.field-0.0 _ c.from_residual-in_err-put_text.ensures.1
    (lines_refused _ _ (g.D.Desk.slots c.args.desk.now) (g.D.Desk.slots c.put_emitted.new.desk) (g.D.Desk.slots c.put_text.new.desk) _
    (puts_records g.W.Sink.spelled c.args.passage c.args.burst.items c.as_slice-items.result.now c.args.beside.now.items c.as_slice.result.now c.in_ok-service.fates.items _ _ c.requires.as_many c.in_ok-service.ensures.fates c.as_slice-items.ensures c.as_slice.ensures.value c.in_ok-put_emitted.ensures.ok)
    (subst (λ t. Breaks [] t (g.D.Desk.slots c.put_emitted.new.desk) (g.D.Desk.slots c.put_text.new.desk) c.in_err-put_text.field-0.0)
    (made_lines c.args.passage c.args.burst.items c.as_slice-items.result.now c.in_ok-service.service.chains c.as_slice-chains.result.now c.in_ok-service.fates.items c.deref.result.now c.in_ok-lines.lines.items c.deref-3.result.now
    c.in_ok-service.ensures.by_record c.in_ok-service.ensures.led c.in_ok-service.ensures.fates c.as_slice-items.ensures c.as_slice-chains.ensures c.deref.ensures.value c.in_ok-lines.ensures c.deref-3.ensures.value ∙ lines_held g.row.B.Denot c.args.passage c.args.burst.items c.args.beside.now.items c.requires.as_many)
    c.in_err-put_text.ensures.err))

pub returns-clause-told : goal.returns-clause-told
returns-clause-told g c =
    c.in_ok-service.ensures.classes ∙ c.requires.told ∙ sym (each_fits (packets_next c.args.passage (records_of c.args.burst.items)) 0 c.args.passage.service.chains c.in_ok-service.service.chains c.in_ok-service.ensures.led)

pub returns-clause-ok : goal.returns-clause-ok
returns-clause-ok g c = record {
  advances = advances_held g.W.Sink.spelled c.args.passage _ c.args.burst.items c.args.beside.now.items c.requires.as_many (record {
    same_classes = c.in_ok-service.ensures.classes;
    same_unit = refl;
    same_spelling = c.in_ok-put_emitted.ensures.spelling;
    led = c.in_ok-service.ensures.led;
    chains = c.in_ok-service.ensures.chains;
    read =
        let many : length c.in_ok-service.fates.items ≡ length (records_of c.args.burst.items) = c.in_ok-service.ensures.as_many ∙ sym (length-map c.args.burst.items (λ i. i.packet)) in
        omega (arith, c.len.ensures, c.in_ok-service.fates.ok.0);
    dropped = ap (λ n. c.args.passage.totals.dropped + n) (c.count_gone.ensures ∙ ap (count_by is_gone) ((λ i. all_ended (c.as_slice-items.ensures i) (c.deref-2.ensures.value i)) ∙ c.in_ok-service.ensures.fates));
  });
  puts = burst_put _ _ (g.D.Desk.slots c.args.desk.now) (g.D.Desk.slots c.put_emitted.new.desk) (g.D.Desk.slots c.put_text.new.desk)
      (puts_records g.W.Sink.spelled c.args.passage c.args.burst.items c.as_slice-items.result.now c.args.beside.now.items c.as_slice.result.now c.in_ok-service.fates.items _ _ c.requires.as_many c.in_ok-service.ensures.fates c.as_slice-items.ensures c.as_slice.ensures.value c.in_ok-put_emitted.ensures.ok)
      (subst (λ t. Puts [] t (g.D.Desk.slots c.put_emitted.new.desk) (g.D.Desk.slots c.put_text.new.desk))
      (made_lines c.args.passage c.args.burst.items c.as_slice-items.result.now c.in_ok-service.service.chains c.as_slice-chains.result.now c.in_ok-service.fates.items c.deref.result.now c.in_ok-lines.lines.items c.deref-3.result.now
      c.in_ok-service.ensures.by_record c.in_ok-service.ensures.led c.in_ok-service.ensures.fates c.as_slice-items.ensures c.as_slice-chains.ensures c.deref.ensures.value c.in_ok-lines.ensures c.deref-3.ensures.value ∙ lines_held g.row.B.Denot c.args.passage c.args.burst.items c.args.beside.now.items c.requires.as_many)
      c.in_ok-put_text.ensures.ok);
}

pub returns-in_err-service-clause-err : goal.returns-in_err-service-clause-err
returns-in_err-service-clause-err g c = handed_on c.from_residual.result OutOfMemory _ c.from_residual.ensures.1 (no_memory _ _ (g.D.Desk.slots c.args.desk.now))
