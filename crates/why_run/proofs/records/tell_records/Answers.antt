use Rattle.std.proofs.Common.{◌≡◌, [], None, Err, ap, subst}
use Rattle.std.specs.Prelude.{IfNone, IfSome}
use Rattle.nfp_outside.specs.declared.slot.Slot.TheVariants.{Capture}
use Rattle.capture_items.specs.Sources.{GivesNext}
use Rattle.why_run.proofs.Turns.{at_begins, at_end, at_given_break, at_goes_on, at_stop, at_stop_break}
use Rattle.why_run.proofs.records.tell_records.Goals as goal

pub records-init : goal.records-init
records-init g c = at_begins g.S.Source.left g.S.Source.packets g.S.Source.is_open c.args.unit c.args.telling.now c.args.text.now.items c.args.source (g.D.Desk.slots c.args.desk.now) c.requires.begun c.requires.fresh c.requires.open

pub records-preserved : goal.records-preserved
records-preserved g c =
    at_goes_on g.S.Source.left g.S.Source.packets g.S.Source.is_open c.args.unit g.S.Source.taken c.args.telling.now c.records.telling c.tell_given.new.telling c.args.text.now.items c.records.text.items c.tell_given.new.text.items c.args.source c.records.source c.next.new.self
    c.in-Ok-Some.given (g.D.Desk.slots c.args.desk.now) (g.D.Desk.slots c.records.desk) (g.D.Desk.slots c.next.new.desk) (g.D.Desk.slots c.tell_given.new.desk) c.records.invariant
    (subst (λ o. IfSome o (λ x. GivesNext g.S.Source.left g.S.Source.packets g.S.Source.taken x c.records.source c.next.new.self (g.D.Desk.slots c.records.desk Capture) (g.D.Desk.slots c.next.new.desk Capture))) c.in-Ok-Some.field-0-is c.in-Ok-Some.ensures.given) c.in-Ok-Some.ensures.stays_open c.in-Ok-Some.ensures.later c.in-Ok-Some.ensures.name c.in-Ok-Some.ensures.others c.in-Ok.ensures.ok c.in-Ok.ensures.others

pub returns-in-Err-tell_given-clause-err : goal.returns-in-Err-tell_given-clause-err
returns-in-Err-tell_given-clause-err g c =
    at_given_break g.S.Source.left g.S.Source.packets g.S.Source.is_open c.args.unit g.S.Source.taken c.args.telling.now c.records.telling c.args.text.now.items c.records.text.items c.args.source c.records.source c.next.new.self c.in-Ok-Some.given c.in-Err-tell_given.fault
    (g.D.Desk.slots c.args.desk.now) (g.D.Desk.slots c.records.desk) (g.D.Desk.slots c.next.new.desk) (g.D.Desk.slots c.tell_given.new.desk) c.records.invariant c.in-Ok-Some.ensures.later c.in-Ok-Some.ensures.others (subst (λ o. IfSome o (λ x. GivesNext g.S.Source.left g.S.Source.packets g.S.Source.taken x c.records.source c.next.new.self (g.D.Desk.slots c.records.desk Capture) (g.D.Desk.slots c.next.new.desk Capture))) c.in-Ok-Some.field-0-is c.in-Ok-Some.ensures.given)
    c.in-Err-tell_given.ensures.err

pub returns-in-Ok-None-clause-ok : goal.returns-in-Ok-None-clause-ok
returns-in-Ok-None-clause-ok g c =
    at_end g.S.Source.left g.S.Source.packets g.S.Source.is_open c.args.unit c.args.telling.now c.records.telling c.args.text.now.items c.records.text.items c.args.source c.records.source (g.D.Desk.slots c.args.desk.now) (g.D.Desk.slots c.records.desk) (g.D.Desk.slots c.next.new.desk) c.records.invariant (subst (λ o. IfNone o (IfSome (g.S.Source.left c.records.source (g.D.Desk.slots c.records.desk Capture)) (λ s. s ≡ record { given = []; fault = None }))) c.in-Ok-None.field-0-is c.in-Ok-None.ensures.end) c.in-Ok-None.ensures.later c.in-Ok-None.ensures.others

pub returns-in-Err-clause-ok : goal.returns-in-Err-clause-ok
returns-in-Err-clause-ok g c =
    at_stop g.S.Source.left g.S.Source.packets g.S.Source.is_open c.args.unit c.args.telling.now c.records.telling c.args.text.now.items c.records.text.items c.args.source c.records.source c.in-Err.refusal c.stop.result (g.D.Desk.slots c.args.desk.now) (g.D.Desk.slots c.records.desk) (g.D.Desk.slots c.next.new.desk) c.records.invariant
    (λ fault is. c.in-Err.ensures.refused fault (ap Err is)) c.in-Err.ensures.later c.in-Err.ensures.others c.stop.ensures

pub returns-in-Err-clause-err : goal.returns-in-Err-clause-err
returns-in-Err-clause-err g c =
    at_stop_break g.S.Source.left g.S.Source.packets g.S.Source.is_open c.args.unit c.args.telling.now c.records.telling c.args.text.now.items c.records.text.items c.args.source c.records.source c.in-Err.refusal c.stop.result (g.D.Desk.slots c.args.desk.now) (g.D.Desk.slots c.records.desk) (g.D.Desk.slots c.next.new.desk) c.records.invariant
    (λ is. c.in-Err.ensures.read_fault (ap Err is)) c.in-Err.ensures.later c.in-Err.ensures.others c.stop.ensures
