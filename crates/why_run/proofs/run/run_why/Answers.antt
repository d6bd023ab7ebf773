use Rattle.std.proofs.Common.{◌≡◌, ◌∙◌, ◌++◌, [], ap, subst}
use Rattle.nfp_outside.specs.declared.slot.Slot.TheVariants.{Capture}
use Rattle.capture_items.specs.Putting.{no_memory}
use Rattle.capture_items.specs.Slots.{Breaks, Puts}
use Rattle.capture_items.specs.declared.fault.RunFault.TheVariants.{OutOfMemory}
use Rattle.why_report.specs.Report.{summary, title}
use Rattle.why_run.specs.Running.{ReportBreaks, ordered_of}
use Rattle.why_run.specs.Telling.{AddsSummary, TellBreaks, TellsAll}
use Rattle.why_run.proofs.Ending.{breaks_among, breaks_behind, breaks_last, no_report, reports_all}
use Rattle.why_run.proofs.HandingOn.{handed_on}
use Rattle.why_run.proofs.Told.{summary_told}
use Rattle.why_run.proofs.run.run_why.Goals as goal

pub returns-in_err-text-clause-err : goal.returns-in_err-text-clause-err
returns-in_err-text-clause-err g c = handed_on c.from_residual.result OutOfMemory (ReportBreaks c.args.service c.args.unit c.args.asked (g.S.Source.left c.args.source (g.D.Desk.slots c.args.desk.now Capture)) (g.D.Desk.slots c.args.desk.now) (g.D.Desk.slots c.args.desk.now)) c.from_residual.ensures.1 (no_report c.args.service c.args.unit c.args.asked (g.S.Source.left c.args.source (g.D.Desk.slots c.args.desk.now Capture)) (g.D.Desk.slots c.args.desk.now))

pub returns-in_err-telling-clause-err : goal.returns-in_err-telling-clause-err
returns-in_err-telling-clause-err g c =
    handed_on c.from_residual-in_err-telling.result OutOfMemory (ReportBreaks c.args.service c.args.unit c.args.asked (g.S.Source.left c.args.source (g.D.Desk.slots c.args.desk.now Capture)) (g.D.Desk.slots c.args.desk.now) (g.D.Desk.slots c.args.desk.now)) c.from_residual-in_err-telling.ensures.1 (no_report c.args.service c.args.unit c.args.asked (g.S.Source.left c.args.source (g.D.Desk.slots c.args.desk.now Capture)) (g.D.Desk.slots c.args.desk.now))

pub returns-in_err-fault-clause-err : goal.returns-in_err-fault-clause-err
returns-in_err-fault-clause-err g c =
    handed_on c.from_residual-in_err-fault.result c.in_err-fault.field-0.0 (ReportBreaks c.args.service c.args.unit c.args.asked (g.S.Source.left c.args.source (g.D.Desk.slots c.args.desk.now Capture)) (g.D.Desk.slots c.args.desk.now) (g.D.Desk.slots c.tell_records.new.desk)) c.from_residual-in_err-fault.ensures.1
    (breaks_among c.args.service c.args.unit c.args.asked (g.S.Source.left c.args.source (g.D.Desk.slots c.args.desk.now Capture)) c.extend_from_slice.new.self.items (g.D.Desk.slots c.args.desk.now) (g.D.Desk.slots c.tell_records.new.desk) c.in_err-fault.field-0.0 (c.in_ok-extend_from_slice.ensures.items ∙ ap (λ l. l ++ title) c.in_ok-text.ensures.items)
    (subst (λ s. TellBreaks s c.args.unit (g.S.Source.left c.args.source (g.D.Desk.slots c.args.desk.now Capture)) c.extend_from_slice.new.self.items (g.D.Desk.slots c.args.desk.now) (g.D.Desk.slots c.tell_records.new.desk) c.in_err-fault.field-0.0) c.in_ok-telling.ensures.service_is c.in_err-fault.ensures.err))

pub returns-in_err-push_summary-clause-err : goal.returns-in_err-push_summary-clause-err
returns-in_err-push_summary-clause-err g c =
    let all : TellsAll c.args.service c.args.unit c.args.asked (g.S.Source.left c.args.source (g.D.Desk.slots c.args.desk.now Capture)) c.tell_records.new.telling c.extend_from_slice.new.self.items c.tell_records.new.text.items (g.D.Desk.slots c.args.desk.now) (g.D.Desk.slots c.tell_records.new.desk) c.in_ok-fault.fault =
    subst (λ a. TellsAll c.args.service c.args.unit a (g.S.Source.left c.args.source (g.D.Desk.slots c.args.desk.now Capture)) c.tell_records.new.telling c.extend_from_slice.new.self.items c.tell_records.new.text.items (g.D.Desk.slots c.args.desk.now) (g.D.Desk.slots c.tell_records.new.desk) c.in_ok-fault.fault) c.in_ok-telling.ensures.asked_is
    (subst (λ s. TellsAll s c.args.unit c.in_ok-telling.telling.asked (g.S.Source.left c.args.source (g.D.Desk.slots c.args.desk.now Capture)) c.tell_records.new.telling c.extend_from_slice.new.self.items c.tell_records.new.text.items (g.D.Desk.slots c.args.desk.now) (g.D.Desk.slots c.tell_records.new.desk) c.in_ok-fault.fault) c.in_ok-telling.ensures.service_is
    c.in_ok-fault.ensures.ok) in
    handed_on c.from_residual-in_err-push_summary.result OutOfMemory (ReportBreaks c.args.service c.args.unit c.args.asked (g.S.Source.left c.args.source (g.D.Desk.slots c.args.desk.now Capture)) (g.D.Desk.slots c.args.desk.now) (g.D.Desk.slots c.tell_records.new.desk)) c.from_residual-in_err-push_summary.ensures.1
    (breaks_behind c.args.service c.args.unit c.args.asked (g.S.Source.left c.args.source (g.D.Desk.slots c.args.desk.now Capture)) c.tell_records.new.telling c.extend_from_slice.new.self.items c.tell_records.new.text.items c.in_ok-fault.fault (g.D.Desk.slots c.args.desk.now) (g.D.Desk.slots c.tell_records.new.desk) (g.D.Desk.slots c.tell_records.new.desk) OutOfMemory (c.in_ok-extend_from_slice.ensures.items ∙ ap (λ l. l ++ title) c.in_ok-text.ensures.items) all (no_memory [] c.tell_records.new.text.items (g.D.Desk.slots c.tell_records.new.desk)))

pub returns-in_err-put_text-clause-err : goal.returns-in_err-put_text-clause-err
returns-in_err-put_text-clause-err g c =
    let all : TellsAll c.args.service c.args.unit c.args.asked (g.S.Source.left c.args.source (g.D.Desk.slots c.args.desk.now Capture)) c.tell_records.new.telling c.extend_from_slice.new.self.items c.tell_records.new.text.items (g.D.Desk.slots c.args.desk.now) (g.D.Desk.slots c.tell_records.new.desk) c.in_ok-fault.fault =
    subst (λ a. TellsAll c.args.service c.args.unit a (g.S.Source.left c.args.source (g.D.Desk.slots c.args.desk.now Capture)) c.tell_records.new.telling c.extend_from_slice.new.self.items c.tell_records.new.text.items (g.D.Desk.slots c.args.desk.now) (g.D.Desk.slots c.tell_records.new.desk) c.in_ok-fault.fault) c.in_ok-telling.ensures.asked_is
    (subst (λ s. TellsAll s c.args.unit c.in_ok-telling.telling.asked (g.S.Source.left c.args.source (g.D.Desk.slots c.args.desk.now Capture)) c.tell_records.new.telling c.extend_from_slice.new.self.items c.tell_records.new.text.items (g.D.Desk.slots c.args.desk.now) (g.D.Desk.slots c.tell_records.new.desk) c.in_ok-fault.fault) c.in_ok-telling.ensures.service_is
    c.in_ok-fault.ensures.ok) in
    let adds : c.push_summary.new.text.items ≡ c.tell_records.new.text.items ++ summary (ordered_of c.args.service) all.done c.in_ok-fault.fault =
    summary_told (ordered_of c.args.service) c.args.asked all.done c.tell_records.new.telling c.in_ok-fault.fault c.tell_records.new.text.items c.push_summary.new.text.items all.told
    (subst (λ s. AddsSummary s c.tell_records.new.telling.account c.in_ok-fault.fault c.tell_records.new.text.items c.push_summary.new.text.items) c.chains.ensures c.in_ok-push_summary.ensures) in
    let new = g.D.Desk.slots c.put_text.new.desk in
    handed_on c.from_residual-in_err-put_text.result c.in_err-put_text.field-0.0 (ReportBreaks c.args.service c.args.unit c.args.asked (g.S.Source.left c.args.source (g.D.Desk.slots c.args.desk.now Capture)) (g.D.Desk.slots c.args.desk.now) new) c.from_residual-in_err-put_text.ensures.1
    (breaks_last c.args.service c.args.unit c.args.asked (g.S.Source.left c.args.source (g.D.Desk.slots c.args.desk.now Capture)) c.tell_records.new.telling c.extend_from_slice.new.self.items c.tell_records.new.text.items c.push_summary.new.text.items c.in_ok-fault.fault (g.D.Desk.slots c.args.desk.now) (g.D.Desk.slots c.tell_records.new.desk) (c.in_ok-extend_from_slice.ensures.items ∙ ap (λ l. l ++ title) c.in_ok-text.ensures.items) all adds new c.in_err-put_text.field-0.0
    (subst (λ l. Breaks [] l (g.D.Desk.slots c.tell_records.new.desk) new c.in_err-put_text.field-0.0) c.deref.ensures.value c.in_err-put_text.ensures.err))

pub returns-clause-ok : goal.returns-clause-ok
returns-clause-ok g c =
    let all : TellsAll c.args.service c.args.unit c.args.asked (g.S.Source.left c.args.source (g.D.Desk.slots c.args.desk.now Capture)) c.tell_records.new.telling c.extend_from_slice.new.self.items c.tell_records.new.text.items (g.D.Desk.slots c.args.desk.now) (g.D.Desk.slots c.tell_records.new.desk) c.in_ok-fault.fault =
    subst (λ a. TellsAll c.args.service c.args.unit a (g.S.Source.left c.args.source (g.D.Desk.slots c.args.desk.now Capture)) c.tell_records.new.telling c.extend_from_slice.new.self.items c.tell_records.new.text.items (g.D.Desk.slots c.args.desk.now) (g.D.Desk.slots c.tell_records.new.desk) c.in_ok-fault.fault) c.in_ok-telling.ensures.asked_is
    (subst (λ s. TellsAll s c.args.unit c.in_ok-telling.telling.asked (g.S.Source.left c.args.source (g.D.Desk.slots c.args.desk.now Capture)) c.tell_records.new.telling c.extend_from_slice.new.self.items c.tell_records.new.text.items (g.D.Desk.slots c.args.desk.now) (g.D.Desk.slots c.tell_records.new.desk) c.in_ok-fault.fault) c.in_ok-telling.ensures.service_is
    c.in_ok-fault.ensures.ok) in
    let adds : c.push_summary.new.text.items ≡ c.tell_records.new.text.items ++ summary (ordered_of c.args.service) all.done c.in_ok-fault.fault =
    summary_told (ordered_of c.args.service) c.args.asked all.done c.tell_records.new.telling c.in_ok-fault.fault c.tell_records.new.text.items c.push_summary.new.text.items all.told
    (subst (λ s. AddsSummary s c.tell_records.new.telling.account c.in_ok-fault.fault c.tell_records.new.text.items c.push_summary.new.text.items) c.chains.ensures c.in_ok-push_summary.ensures) in
    let new = g.D.Desk.slots c.put_text.new.desk in
    reports_all c.args.service c.args.unit c.args.asked (g.S.Source.left c.args.source (g.D.Desk.slots c.args.desk.now Capture)) c.tell_records.new.telling c.extend_from_slice.new.self.items c.tell_records.new.text.items c.push_summary.new.text.items c.in_ok-fault.fault (g.D.Desk.slots c.args.desk.now) (g.D.Desk.slots c.tell_records.new.desk) (c.in_ok-extend_from_slice.ensures.items ∙ ap (λ l. l ++ title) c.in_ok-text.ensures.items) all adds new
    (subst (λ l. Puts [] l (g.D.Desk.slots c.tell_records.new.desk) new) c.deref.ensures.value c.in_ok-put_text.ensures.ok)
