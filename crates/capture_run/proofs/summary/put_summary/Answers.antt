use Rattle.std.proofs.Common.{◌≡◌, ◌∙◌, [], ◌++◌, append_assoc, subst}
use Rattle.capture_items.specs.FaultLines.{last_line}
use Rattle.capture_report.specs.Telling.{told_text}
use Rattle.capture_items.specs.Slots.{Breaks, Puts}
use Rattle.capture_items.specs.declared.fault.RunFault.TheVariants.{OutOfMemory}
use Rattle.capture_items.specs.Putting.{no_memory}
use Rattle.capture_run.proofs.Gathering.{breaks_within, gather_breaks, gathered_put, gathers_more, gathers_pushed, if_err, listed, on_ok, told_parts}
use Rattle.capture_run.proofs.HandingOn.{handed_on}
use Rattle.capture_run.proofs.summary.put_summary.Goals as goal

pub returns-in_err-tell_functions-clause-err : goal.returns-in_err-tell_functions-clause-err
returns-in_err-tell_functions-clause-err g c =
    let held = c.push_head.new.held.items in
    let last = last_line c.args.ended.fault in
    let parts : held ++ (listed c.args.chains.now ++ last) ≡ told_text c.args.chains.now c.args.ended =
    told_parts c.args.chains.now c.args.ended _ held c.in_ok-held.ensures.items c.in_ok-push_head.ensures in
    handed_on c.from_residual-in_err-tell_functions.result c.in_err-tell_functions.field-0.0 _ c.from_residual-in_err-tell_functions.ensures.1
    (subst (λ t. Breaks [] t (g.D.Desk.slots c.args.desk.now) (g.D.Desk.slots c.tell_functions.new.desk) c.in_err-tell_functions.field-0.0) (append_assoc held (listed c.args.chains.now) last ∙ parts)
    (breaks_within (held ++ listed c.args.chains.now) last _ _ _ c.in_err-tell_functions.ensures.err))

pub returns-in_err-push_last_line-clause-err : goal.returns-in_err-push_last_line-clause-err
returns-in_err-push_last_line-clause-err g c =
    let held = c.push_head.new.held.items in
    let last = last_line c.args.ended.fault in
    let parts : held ++ (listed c.args.chains.now ++ last) ≡ told_text c.args.chains.now c.args.ended =
    told_parts c.args.chains.now c.args.ended _ held c.in_ok-held.ensures.items c.in_ok-push_head.ensures in
    handed_on c.from_residual-in_err-push_last_line.result OutOfMemory _ c.from_residual-in_err-push_last_line.ensures.1
    (subst (λ t. Breaks [] t (g.D.Desk.slots c.args.desk.now) (g.D.Desk.slots c.tell_functions.new.desk) OutOfMemory) parts
    (gather_breaks (listed c.args.chains.now) last held c.tell_functions.new.held.items _ (g.D.Desk.slots c.tell_functions.new.desk) _ OutOfMemory c.in_ok-tell_functions.ensures.ok (no_memory _ _ (g.D.Desk.slots c.tell_functions.new.desk))))

pub returns-clause-ok : goal.returns-clause-ok
returns-clause-ok g c =
    let held = c.push_head.new.held.items in
    let last = last_line c.args.ended.fault in
    let parts : held ++ (listed c.args.chains.now ++ last) ≡ told_text c.args.chains.now c.args.ended =
    told_parts c.args.chains.now c.args.ended _ held c.in_ok-held.ensures.items c.in_ok-push_head.ensures in
    on_ok c.put_text.result _ _
    (λ put. subst (λ t. Puts [] t (g.D.Desk.slots c.args.desk.now) (g.D.Desk.slots c.put_text.new.desk)) parts
    (gathered_put (listed c.args.chains.now ++ last) held c.push_last_line.new.text.items _ (g.D.Desk.slots c.tell_functions.new.desk) (g.D.Desk.slots c.put_text.new.desk)
    (gathers_more (listed c.args.chains.now) last held c.tell_functions.new.held.items c.push_last_line.new.text.items _ _ _ c.in_ok-tell_functions.ensures.ok (gathers_pushed last _ _ _ c.in_ok-push_last_line.ensures))
    (subst (λ t. Puts [] t (g.D.Desk.slots c.tell_functions.new.desk) (g.D.Desk.slots c.put_text.new.desk)) c.deref.ensures.value put)))
    c.put_text.ensures.ok

pub returns-clause-err : goal.returns-clause-err
returns-clause-err g c =
    let held = c.push_head.new.held.items in
    let last = last_line c.args.ended.fault in
    let parts : held ++ (listed c.args.chains.now ++ last) ≡ told_text c.args.chains.now c.args.ended =
    told_parts c.args.chains.now c.args.ended _ held c.in_ok-held.ensures.items c.in_ok-push_head.ensures in
    if_err c.put_text.result _ _
    (λ e broken. subst (λ t. Breaks [] t (g.D.Desk.slots c.args.desk.now) (g.D.Desk.slots c.put_text.new.desk) e) parts
    (gather_breaks (listed c.args.chains.now) last held c.tell_functions.new.held.items _ (g.D.Desk.slots c.tell_functions.new.desk) _ e c.in_ok-tell_functions.ensures.ok
    (subst (λ t. Breaks [] t (g.D.Desk.slots c.tell_functions.new.desk) (g.D.Desk.slots c.put_text.new.desk) e) (c.deref.ensures.value ∙ c.in_ok-push_last_line.ensures) broken)))
    c.put_text.ensures.err

pub returns-in_err-held-clause-err : goal.returns-in_err-held-clause-err
returns-in_err-held-clause-err g c = handed_on c.from_residual.result OutOfMemory _ c.from_residual.ensures.1 (no_memory _ _ (g.D.Desk.slots c.args.desk.now))

pub returns-in_err-push_head-clause-err : goal.returns-in_err-push_head-clause-err
returns-in_err-push_head-clause-err g c = handed_on c.from_residual-in_err-push_head.result OutOfMemory _ c.from_residual-in_err-push_head.ensures.1 (no_memory _ _ (g.D.Desk.slots c.args.desk.now))
